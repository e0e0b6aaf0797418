-- Where a summary fact comes from: the first use of a rule that gives it from facts of lower rank; over numbers of nodes.
use Rattle.std.specs.Prelude.{◌≡◌, ℕ, ◌<◌}
use Rattle.argot_facts.specs.Summaries.{Way, Up, Down, IsSame, HasRank, ReachRank}
use Rattle.argot_facts.specs.declared.graphs.EdgeKind.{EdgeKind}
use Rattle.argot_facts.specs.declared.graphs.EdgeKind.TheVariants.{Plain, Call, Return, Reset}

-- the use of a rule: m is the node of its premise; over a call it enters at q and comes back from l
pub data Use : Type 0 where
  use_start : Use
  use_call : (m : ℕ) → Use
  use_plain : (m : ℕ) → Use
  use_return : (m : ℕ) → Use
  use_reset : (m : ℕ) → Use
  use_on : (m : ℕ) → Use
  use_over : (m q l c : ℕ) → Use
  use_again : (m : ℕ) → Use

-- the order of the rules, which for each sort of fact is that of its table
abbrev pub rule_order : Use → ℕ
rule_order use_start = 0
rule_order (use_call m) = 1
rule_order (use_plain m) = 2
rule_order (use_return m) = 3
rule_order (use_reset m) = 4
rule_order (use_on m) = 5
rule_order (use_over m q l c) = 6
rule_order (use_again m) = 7

-- one use stands before another: by rule, then by the nodes m, q and l
pub data UseBefore : Use → Use → Type 0 where
  by_rule : {a b : Use} → rule_order a < rule_order b → UseBefore a b
  by_call : {m n : ℕ} → m < n → UseBefore (use_call m) (use_call n)
  by_plain : {m n : ℕ} → m < n → UseBefore (use_plain m) (use_plain n)
  by_return : {m n : ℕ} → m < n → UseBefore (use_return m) (use_return n)
  by_reset : {m n : ℕ} → m < n → UseBefore (use_reset m) (use_reset n)
  by_on : {m n : ℕ} → m < n → UseBefore (use_on m) (use_on n)
  by_again : {m n : ℕ} → m < n → UseBefore (use_again m) (use_again n)
  by_first : {m q l c n r k d : ℕ} → m < n → UseBefore (use_over m q l c) (use_over n r k d)
  by_second : {m q l c r k d : ℕ} → q < r → UseBefore (use_over m q l c) (use_over m r k d)
  by_third : {m q l c k d : ℕ} → l < k → UseBefore (use_over m q l c) (use_over m q k d)

module _ (E : ℕ → EdgeKind → ℕ → Type 0) where
  -- the use gives the fact that p reaches n, of rank r, from facts of lower rank
  pub data GivesSame (p n r : ℕ) : Use → Type 0 where
    same_start : n ≡ p → GivesSame p n r use_start
    same_plain : (m k : ℕ) → HasRank E p m k → k < r → E m Plain n → GivesSame p n r (use_plain m)
    same_over : (m q l c k j : ℕ) → HasRank E p m k → k < r → E m (Call c) q → HasRank E q l j → j < r → E l (Return c) n → GivesSame p n r (use_over m q l c)

  pub record SameParent (p n : ℕ) (u : Use) : Type 0 where
    pub rank : ℕ
    pub has : HasRank E p n rank
    pub gives : GivesSame p n rank u
    pub first : (v : Use) → GivesSame p n rank v → UseBefore v u → ⊥

  -- the use gives the fact that s reaches n in this way, of rank r; the premise has this way
  pub data GivesWay (s n r : ℕ) : Way → Use → Way → Type 0 where
    up_start : n ≡ s → r ≡ 0 → GivesWay s n r Up use_start Up
    up_plain : (m k : ℕ) → ReachRank E s Up m k → k < r → E m Plain n → GivesWay s n r Up (use_plain m) Up
    up_return : (m c k : ℕ) → ReachRank E s Up m k → k < r → E m (Return c) n → GivesWay s n r Up (use_return m) Up
    up_reset : (m k : ℕ) → ReachRank E s Up m k → k < r → E m Reset n → GivesWay s n r Up (use_reset m) Up
    up_over : (m q l c k : ℕ) → ReachRank E s Up m k → k < r → E m (Call c) q → IsSame E q l → E l (Return c) n → GivesWay s n r Up (use_over m q l c) Up
    up_again : (m k : ℕ) → ReachRank E s Down m k → k < r → E m Reset n → GivesWay s n r Up (use_again m) Down
    down_call : (m c k : ℕ) → ReachRank E s Up m k → k < r → E m (Call c) n → GivesWay s n r Down (use_call m) Up
    down_plain : (m k : ℕ) → ReachRank E s Down m k → k < r → E m Plain n → GivesWay s n r Down (use_plain m) Down
    down_on : (m c k : ℕ) → ReachRank E s Down m k → k < r → E m (Call c) n → GivesWay s n r Down (use_on m) Down
    down_over : (m q l c k : ℕ) → ReachRank E s Down m k → k < r → E m (Call c) q → IsSame E q l → E l (Return c) n → GivesWay s n r Down (use_over m q l c) Down

  pub record WayParent (s n : ℕ) (w : Way) (u : Use) (before : Way) : Type 0 where
    pub rank : ℕ
    pub has : ReachRank E s w n rank
    pub gives : GivesWay s n rank w u before
    pub first : (v : Use) (other : Way) → GivesWay s n rank w v other → UseBefore v u → ⊥
