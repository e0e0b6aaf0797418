-- The lists of a file's nodes say what its relations say.
use Rattle.std.proofs.Common.{◌≡◌, ℕ, ◌<◌, ◌≤◌, List, length, Bool, true, false, Option, Some, None, refl, sym, ap, ◌∙◌, subst, arith}
use Rattle.std.specs.Prelude.{slice_get}
use Rattle.argot_tree.specs.declared.token.Token.{Token}
use Rattle.argot_tree.specs.declared.tree.TreeNode.{TreeNode}
use Rattle.argot_names_rules.specs.Files.{SourceFile, text_at}
use Rattle.argot_names_rules.specs.Lists.{In}
use Rattle.argot_names_rules.specs.Bindings.{BindingKind, Specified, Defined, Received, Switched, Brings, HasEarlier, IsNew, IsLocal}
use Rattle.argot_names_blocks.specs.declared.binding.Binding.{Binding}
use Rattle.argot_names_blocks.specs.declared.binding.BindingKind.{BindingKind as Written}
use Rattle.argot_names_blocks.specs.declared.binding.BindingKind.TheVariants as manners
use Rattle.argot_names_blocks.specs.Binding.{manner_of, written_of, IsBinding}
use Rattle.argot_names_blocks.specs.Listing.{ListsAll}
use Rattle.argot_names_blocks.proofs.Finding.{get_some}
use Rattle.std.proofs.lemmas.Option.{slice_get_within}
use Rattle.argot_names_scopes.specs.News.{HasEarlierIn, IsNewIn, AreNews}
use Rattle.argot_names_scopes.specs.Meant.{IsScoped, IsBest}
use Rattle.argot_names_rules.specs.Uses.{IsFirstOf}
use Rattle.argot_names_scopes.specs.Earliest.{IsEarlierAt, IsEarliest}
use Rattle.argot_names_scopes.specs.Again.{IsAgainAt, IsFirstAgain}
use Rattle.argot_names_scopes.proofs.Ascending.{not_behind}
use Rattle.argot_names_scopes.specs.Files.{file_of, MeansLocal, MeansNoLocal, IsAgain, BeginsAt, IsFirstPlace, HasNoPlace}

manner_back : (m : BindingKind) → manner_of (written_of m) ≡ m
manner_back Specified = refl
manner_back Defined = refl
manner_back Received = refl
manner_back Switched = refl

module _ (bytes : List ℕ) (tokens : List Token) (tree : List TreeNode) (brought : List Binding) (all : ListsAll (λ (x : Binding). x.node) (IsBinding tree) brought) where
  abbrev f : SourceFile
  f = file_of bytes tokens tree

  -- what is brought stands in the list
  stands : (m : BindingKind) (node token opens closes from : ℕ) → Brings tree m node token opens closes from → In (record { manner = written_of m; node = node; token = token; opens = opens; closes = closes; from = from }) brought
  stands m node token opens closes from h =
      all.complete (record { manner = written_of m; node = node; token = token; opens = opens; closes = closes; from = from })
      (subst (λ x. Brings tree x node token opens closes from) (sym (manner_back m)) h)

  pub earlier_known : (token opens : ℕ) → HasEarlier f token opens → HasEarlierIn bytes tokens brought token opens
  earlier_known token opens h =
      record {
        item = record { manner = written_of h.manner; node = h.node; token = h.at; opens = opens; closes = h.closes; from = h.from };
        among = stands h.manner h.node h.at opens h.closes h.from h.brings;
        is = record { block = refl; earlier = h.earlier; same = h.same };
      }

  pub earlier_holds : (token opens : ℕ) → HasEarlierIn bytes tokens brought token opens → HasEarlier f token opens
  earlier_holds token opens h =
      record {
        manner = manner_of h.item.manner;
        node = h.item.node;
        at = h.item.token;
        closes = h.item.closes;
        from = h.item.from;
        brings = subst (λ x. Brings tree (manner_of h.item.manner) h.item.node h.item.token x h.item.closes h.item.from) h.is.block (all.sound h.item h.among);
        earlier = h.is.earlier;
        same = h.is.same;
      }

  new_known : (m : Written) (token opens : ℕ) → IsNew f (manner_of m) token opens → IsNewIn bytes tokens brought m token opens
  new_known manners.Specified token opens h = tt
  new_known manners.Received token opens h = tt
  new_known manners.Switched token opens h = tt
  new_known manners.Defined token opens h = (h.0, λ e. h.1 (earlier_holds token opens e))

  new_holds : (m : Written) (token opens : ℕ) → IsNewIn bytes tokens brought m token opens → IsNew f (manner_of m) token opens
  new_holds manners.Specified token opens h = tt
  new_holds manners.Received token opens h = tt
  new_holds manners.Switched token opens h = tt
  new_holds manners.Defined token opens h = (h.0, λ e. h.1 (earlier_known token opens e))

  module _ (news : List Bool) (ok : AreNews bytes tokens brought news) (token : ℕ) (name : List ℕ) where
    local_of : (k : ℕ) (b : Binding) → IsScoped bytes tokens brought news token name k b → IsLocal f b.node b.token b.opens b.closes b.from
    local_of k b s =
        record { manner = manner_of b.manner; brings = all.sound b (k, s.there); new = new_holds b.manner b.token b.opens (ok.new k b s.there s.new); named = s.is.named }

    scoped_of : (node at opens closes from : ℕ) → (h : IsLocal f node at opens closes from) → name ≡ text_at f at → from ≤ token → token ≤ closes → (k : ℕ) × IsScoped bytes tokens brought news token name k (record { manner = written_of h.manner; node = node; token = at; opens = opens; closes = closes; from = from })
    scoped_of node at opens closes from h spells low high =
        let b : Binding = record { manner = written_of h.manner; node = node; token = at; opens = opens; closes = closes; from = from } in
        let i = stands h.manner node at opens closes from h.brings in
        let new = new_known (written_of h.manner) at opens (subst (λ x. IsNew f x at opens) (sym (manner_back h.manner)) h.new) in
        let some = get_some news i.0 (omega (arith, slice_get_within brought i.0 b i.1, ok.as_long)) in
        (i.0, record { there = i.1; new = is_true b i.0 i.1 new some.0 some.1; is = record { named = h.named; spells = sym spells; from = low; to = high } })
      where
        is_true : (b : Binding) (k : ℕ) → slice_get brought k ≡ Some b → IsNewIn bytes tokens brought b.manner b.token b.opens → (x : Bool) → slice_get news k ≡ Some x → slice_get news k ≡ Some true
        is_true b k e new true g = g
        is_true b k e new false g = absurd (ok.old k b e g new)

    -- the best item is the one that is meant
    pub best_meant : (count : ℕ) (result : Option Binding) → length brought ≤ count → IsBest bytes tokens brought news token name count result → (b : Binding) → result ≡ Some b → MeansLocal f token name b
    best_meant count result long h b e =
        let t = h.there b e in
        record {
          is = local_of t.0 b t.2;
          spells = sym t.2.is.spells;
          from = t.2.is.from;
          to = t.2.is.to;
          innermost = λ node at opens closes from l spells low high.
              let s = scoped_of node at opens closes from l spells low high in
              h.best b (record { manner = written_of l.manner; node = node; token = at; opens = opens; closes = closes; from = from }) s.0 e (omega (arith, slice_get_within brought s.0 (record { manner = written_of l.manner; node = node; token = at; opens = opens; closes = closes; from = from }) s.1.there)) s.1;
        }

    pub none_meant : (count : ℕ) (result : Option Binding) → length brought ≤ count → IsBest bytes tokens brought news token name count result → result ≡ None → MeansNoLocal f token name
    none_meant count result long h e node at opens closes from l spells low high =
        let s = scoped_of node at opens closes from l spells low high in
        h.none (record { manner = written_of l.manner; node = node; token = at; opens = opens; closes = closes; from = from }) s.0 e (omega (arith, slice_get_within brought s.0 (record { manner = written_of l.manner; node = node; token = at; opens = opens; closes = closes; from = from }) s.1.there)) s.1

  -- a name that is declared again stands in the list
  again_of : (k offset : ℕ) → IsAgainAt bytes tokens brought k offset → (token : ℕ) × IsAgain f token × BeginsAt tokens token offset
  again_of k offset a =
      let b = a.item in
      let brings : IsBinding tree b = all.sound b (k, a.there) in
      (b.token, record { node = b.node; opens = b.opens; closes = b.closes; from = b.from; brings = subst (λ x. Brings tree x b.node b.token b.opens b.closes b.from) (ap manner_of a.again.specified) brings; named = a.again.named; earlier = earlier_holds b.token b.opens a.again.earlier }, a.begins)

  again_in : (token offset : ℕ) → IsAgain f token → BeginsAt tokens token offset → (k : ℕ) × (k < length brought) × IsAgainAt bytes tokens brought k offset
  again_in token offset a begins =
      let b : Binding = record { manner = manners.Specified; node = a.node; token = token; opens = a.opens; closes = a.closes; from = a.from } in
      let i = stands Specified a.node token a.opens a.closes a.from a.brings in
      (i.0, slice_get_within brought i.0 b i.1, record { item = b; there = i.1; again = record { specified = refl; named = a.named; earlier = earlier_known token a.opens a.earlier }; begins = begins })

  pub first_place : (count : ℕ) (result : Option ℕ) → length brought ≤ count → IsFirstAgain bytes tokens brought count result → (offset : ℕ) → result ≡ Some offset → IsFirstPlace f offset
  first_place count result long h offset e =
      let t = h.there offset e in
      let a = again_of t.0 offset t.2 in
      record {
        token = a.0;
        again = a.1;
        begins = a.2;
        first = λ other further again begins.
            let i = again_in other further again begins in
            h.first offset further i.0 e (omega (arith, i.1)) i.2;
      }

  pub no_place : (count : ℕ) (result : Option ℕ) → length brought ≤ count → IsFirstAgain bytes tokens brought count result → result ≡ None → HasNoPlace f
  no_place count result long h e token offset again begins =
      let i = again_in token offset again begins in
      h.none offset i.0 e (omega (arith, i.1)) i.2

  -- the first earlier name is the first name of its block
  pub earliest_first : (token opens count : ℕ) (result : Option Binding) → length brought ≤ count → IsEarliest bytes tokens brought token opens count result → (b : Binding) → result ≡ Some b → IsFirstOf f token opens b.node
  earliest_first token opens count result long h b e =
      let t = h.there b e in
      let brings : IsBinding tree b = all.sound b (t.0, t.2.there) in
      record {
        manner = manner_of b.manner;
        at = b.token;
        closes = b.closes;
        from = b.from;
        brings = subst (λ x. Brings tree (manner_of b.manner) b.node b.token x b.closes b.from) t.2.is.block brings;
        same = t.2.is.same;
        earlier = t.2.is.earlier;
        first = λ before.
            let k = earlier_known b.token opens before in
            let own : IsEarlierAt bytes tokens brought token opens k.among.0 k.item = record { there = k.among.1; is = record { block = k.is.block; earlier = omega (arith, k.is.earlier, t.2.is.earlier); same = k.is.same ∙ t.2.is.same } } in
            let low : b.token ≤ k.item.token = h.first b k.item k.among.0 e (omega (arith, slice_get_within brought k.among.0 k.item k.among.1)) own in
            absurd (omega (arith, k.is.earlier));
        least = λ {how} {other} {closes} {from} beside.
            let item : Binding = record { manner = written_of how; node = other; token = b.token; opens = opens; closes = closes; from = from } in
            let i = stands how other b.token opens closes from beside in
            let by = h.least b item i.0 e (omega (arith, slice_get_within brought i.0 item i.1)) (record { there = i.1; is = record { block = refl; earlier = t.2.is.earlier; same = t.2.is.same } }) refl in
            not_behind (λ (x : Binding). x.node) brought all.ordered by.0 i.0 b item by.2 by.1 i.1;
      }

  pub earliest_none : (token opens count : ℕ) (result : Option Binding) → length brought ≤ count → IsEarliest bytes tokens brought token opens count result → result ≡ None → HasEarlier f token opens → ⊥
  earliest_none token opens count result long h e before =
      let k = earlier_known token opens before in
      h.none k.item k.among.0 e (omega (arith, slice_get_within brought k.among.0 k.item k.among.1)) (record { there = k.among.1; is = k.is })
