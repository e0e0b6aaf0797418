-- What is left out in a file, by a view of it, is what the definition says.
use Rattle.std.proofs.Common.{◌≡◌, ℕ, List, refl, sym, ap, ◌∙◌, subst}
use Rattle.std.specs.Prelude.{slice_get, option_map}
use Rattle.argot_tree.specs.declared.node_kind.NodeKind.TheVariants as nodes
use Rattle.argot_tree.specs.declared.tree.TreeNode.{TreeNode}
use Rattle.argot_tree.specs.declared.entries.Entry.{Entry}
use Rattle.argot_names_rules.specs.Lists.{In}
use Rattle.argot_names_rules.specs.Files.{SourceFiles, SourceFile, Place, Begins, read_of, bytes_of, directives_of, text_at}
use Rattle.argot_names_rules.specs.Nodes.{Spans, Is, IsOf, IsFirstChild, IsChild}
use Rattle.argot_names_rules.specs.Imports.{Imports, IsImport}
use Rattle.argot_names_rules.specs.declared.package_key.PackageKey.{PackageKey}
use Rattle.argot_names_rules.specs.declared.alias.Alias.TheVariants.{Dotted}
use Rattle.argot_names_rules.specs.declared.flag.Feature.{Feature}
use Rattle.argot_names_rules.specs.declared.flag.Feature.TheVariants as features
use Rattle.argot_names_rules.specs.Uses.{IsKey}
use Rattle.argot_names_rules.specs.Subset.{is_name, is_type_form, wraps_type, HasEntry, DenotesType, Directs, directive_at, LeavesLiteral}
use Rattle.argot_names_rules.specs.Subset.DenotesType.{name as denotes_name, member as denotes_member, wrapped as denotes_wrapped, form as denotes_form}
use Rattle.argot_names_subset_file.specs.declared.view.View.{View}
use Rattle.argot_names_subset_file.specs.Atoms.{IsAtom, IsBeforeDot}
use Rattle.argot_names_subset_file.specs.Atoms.IsAtom.{name as atom_name, member as atom_member, form as atom_form}
use Rattle.argot_names_subset_file.specs.Atoms.IsBeforeDot.{direct, wrapped as before_wrapped}
use Rattle.argot_names_subset_file.specs.Parts.{BeginsIn, IsBodiless}
use Rattle.argot_names_subset_file.specs.Parts.IsPlain.{type_parameters as plain_parameters, goto_ as plain_goto}
use Rattle.argot_names_subset_file.specs.Files.{IsPart, IsInFile}
use Rattle.argot_names_subset_file.specs.Files.IsPart.{dot as part_dot, plain, number, named, method, bodiless}
use Rattle.argot_names_subset_file.specs.Files.IsInFile.{import_ as in_import, directive as in_directive, node as in_node}
use Rattle.argot_names_subset.specs.Inside.{IsInside, import_, dot, directive, type_parameters, literal, predeclared, goto_, method_expression, without_body}
use Rattle.argot_names_subset.specs.Meanings.{AreMeant, IsPathOf}

module _ (h : SourceFiles) (entries : List Entry) (home : PackageKey) (file : ℕ) (view : View) (directives : List ℕ)
    (file_is : view.number ≡ file) (read_is : view.file.now ≡ read_of h file) (directives_are : directives ≡ directives_of h file) (entries_are : view.entries.now ≡ entries)
    (meant : AreMeant h home file view.named.now view.typed.now) (path_is : IsPathOf h home (option_map (λ p. p.now) view.path)) where
  tokens_are : view.file.now.tokens ≡ (read_of h file).tokens
  tokens_are = ap (λ (f : SourceFile). f.tokens) read_is

  bytes_are : view.file.now.bytes ≡ bytes_of h file
  bytes_are = ap (λ (f : SourceFile). f.bytes) read_is

  nodes_are : view.file.now.nodes ≡ (read_of h file).nodes
  nodes_are = ap (λ (f : SourceFile). f.nodes) read_is

  -- a claim on the nodes, both ways
  to_tree : (P : List TreeNode → Type 0) → P view.file.now.nodes → P (read_of h file).nodes
  to_tree P x = subst P nodes_are x

  to_view : (P : List TreeNode → Type 0) → P (read_of h file).nodes → P view.file.now.nodes
  to_view P x = subst P (sym nodes_are) x

  begins_to : (token : ℕ) (place : Place) → BeginsIn view.file.now.tokens view.number token place → Begins h file token place
  begins_to token place b = record { is = b.is; there = sym (ap (λ ts. slice_get ts token) tokens_are) ∙ b.there; in_file = b.in_file ∙ file_is; at = b.at }

  begins_from : (token : ℕ) (place : Place) → Begins h file token place → BeginsIn view.file.now.tokens view.number token place
  begins_from token place b = record { is = b.is; there = ap (λ ts. slice_get ts token) tokens_are ∙ b.there; in_file = b.in_file ∙ sym file_is; at = b.at }

  -- expressions that denote types
  Denotes : ℕ → Type 0
  Denotes = DenotesType h home file

  record HasAtom (selector : ℕ) : Type 0 where
    pub node : ℕ
    pub atom : ℕ
    pub is : IsAtom view.file.now.nodes view.typed.now node atom
    pub before : IsBeforeDot view.file.now.nodes atom selector

  atom_of : (node selector : ℕ) → DenotesType h home file node → IsBeforeDot view.file.now.nodes node selector → HasAtom selector
  atom_of node selector (denotes_name {meant = m} is stands declares) b =
      record { node = node; atom = node; is = atom_name (to_view (λ t. Is t node nodes.NameUse) is) ((meant.typed node).1 (record { meant = m; stands = stands; declares = declares })); before = b }
  atom_of node selector (denotes_member {node = inner} {meant = m} whole under is stands declares) b =
      record {
        node = inner;
        atom = node;
        is = atom_member (to_view (λ t. Is t node nodes.Selector) whole) (to_view (λ t. IsChild t node inner) under) (to_view (λ t. Is t inner nodes.SelectedName) is) ((meant.typed inner).1 (record { meant = m; stands = stands; declares = declares }));
        before = b;
      }
  atom_of node selector (denotes_wrapped {inner = inner} {at = at} {last = last} is first denotes) b =
      atom_of inner selector denotes (before_wrapped (to_view (λ t. IsOf t node wraps_type at last) is) (to_view (λ t. IsFirstChild t node inner) first) b)
  atom_of node selector (denotes_form {at = at} {last = last} is) b = record { node = node; atom = node; is = atom_form (to_view (λ t. IsOf t node is_type_form at last) is); before = b }

  atom_denotes : (node atom : ℕ) → IsAtom view.file.now.nodes view.typed.now node atom → DenotesType h home file atom
  atom_denotes node _ (atom_name is typed) = let t = (meant.typed node).0 typed in denotes_name (to_tree (λ t. Is t node nodes.NameUse) is) t.stands t.declares
  atom_denotes node atom (atom_member whole under is typed) =
      let t = (meant.typed node).0 typed in
      denotes_member (to_tree (λ t. Is t atom nodes.Selector) whole) (to_tree (λ t. IsChild t atom node) under) (to_tree (λ t. Is t node nodes.SelectedName) is) t.stands t.declares
  atom_denotes node _ (atom_form {at = at} {last = last} is) = denotes_form (to_tree (λ t. IsOf t node is_type_form at last) is)

  record HasOperand (selector : ℕ) : Type 0 where
    pub operand : ℕ
    pub first : IsFirstChild (read_of h file).nodes selector operand
    pub denotes : DenotesType h home file operand

  operand_of : (node selector : ℕ) → IsBeforeDot view.file.now.nodes node selector → DenotesType h home file node → HasOperand selector
  operand_of node selector (direct is first) d = record { operand = node; first = to_tree (λ t. IsFirstChild t selector node) first; denotes = d }
  operand_of node selector (before_wrapped {around = around} {at = at} {last = last} is first more) d =
      operand_of around selector more (denotes_wrapped (to_tree (λ t. IsOf t around wraps_type at last) is) (to_tree (λ t. IsFirstChild t around node) first) d)

  -- what is left out at a node
  part_inside : (node token : ℕ) (feature : Feature) (place : Place) → IsPart view node (record { feature = feature; token = token }) → BeginsIn view.file.now.tokens view.number token place → IsInside h entries home file feature place
  part_inside node token feature place (part_dot d) b =
      subst (λ f. IsInside h entries home file f place) (sym d.feature_is) (dot (to_tree (λ t. IsImport t node token d.path_at Dotted) d.is) (begins_to token place b))
  part_inside node token _ place (plain (plain_parameters {last = last} s)) b = type_parameters (to_tree (λ t. Spans t node nodes.TypeParams token last) s) (begins_to token place b)
  part_inside node token _ place (plain (plain_goto {last = last} s)) b = goto_ (to_tree (λ t. Spans t node nodes.Goto token last) s) (begins_to token place b)
  part_inside node token feature place (number n) b =
      literal (to_tree (λ t. Spans t node nodes.Literal token n.literal.last) n.literal.spans) (sym (ap (λ ts. slice_get ts token) tokens_are) ∙ n.is_kind.there)
      (subst (λ k. LeavesLiteral k feature) (sym n.is_kind.kind_is) n.leaves) (begins_to token place b)
  part_inside node token feature place (named n) b =
      let f = (meant.named node feature).0 n.stands in
      predeclared (to_tree (λ t. IsOf t node is_name token n.last) n.is) (λ k. n.used (to_view (λ t. IsKey t node) k)) f.stands f.is (begins_to token place b)
  part_inside node token feature place (method m) b =
      let o = operand_of m.atom m.selector m.before (atom_denotes node m.atom m.is_atom) in
      subst (λ f. IsInside h entries home file f place) (sym m.feature_is) (method_expression (to_tree (λ t. Spans t m.selector nodes.Selector token m.last) m.spans) o.first o.denotes (begins_to token place b))
  part_inside node token feature place (bodiless x) b =
      let p = path_is.sound x.path x.here in
      let is = subst (λ f. IsBodiless f view.entries.now x.path node (record { feature = feature; token = token })) read_is x.is in
      subst (λ f. IsInside h entries home file f place) (sym x.is.feature_is)
      (without_body p.1 is.above.is.spans is.above.bodiless is.above.under is.name.spans p.2 is.lacks.has (subst (λ es. HasEntry es x.path is.lacks.receiver (text_at (read_of h file) token) → ⊥) entries_are is.lacks.none) (begins_to token place b))

  pub inside : (feature : Feature) (place : Place) → IsInFile view directives feature place → IsInside h entries home file feature place
  inside feature place (in_import i) = import_ (subst (λ f. Imports f i.node i.at i.path_at i.alias i.path) read_is i.imports) i.leaves (begins_to i.path_at place i.begins)
  inside feature place (in_directive d) =
      subst (IsInside h entries home file feature) (sym (d.is.place_is ∙ ap (λ f. record { file = f; offset = d.offset }) file_is))
      (directive (subst (In d.offset) directives_are d.among) (subst (λ bs. Directs (directive_at bs d.offset) feature) bytes_are d.is.directs))
  inside feature place (in_node n) = part_inside n.node n.is.token feature place n.is.holds n.is.begins

  at_node : (node token : ℕ) (feature : Feature) (place : Place) → IsPart view node (record { feature = feature; token = token }) → Begins h file token place → IsInFile view directives feature place
  at_node node token feature place part b = in_node (record { node = node; is = record { token = token; holds = part; begins = begins_from token place b } })

  pub in_file : (feature : Feature) (place : Place) → IsInside h entries home file feature place → IsInFile view directives feature place
  in_file feature place (import_ {node = node} {at = at} {path_at = path_at} {alias = alias} {path = path} imports leaves begins) =
      in_import (record { node = node; at = at; path_at = path_at; alias = alias; path = path; imports = subst (λ f. Imports f node at path_at alias path) (sym read_is) imports; leaves = leaves; begins = begins_from path_at place begins })
  in_file _ place (dot {node = node} {at = at} {path_at = path_at} is begins) =
      at_node node at features.DotImport place (part_dot (record { path_at = path_at; feature_is = refl; is = to_view (λ t. IsImport t node at path_at Dotted) is })) begins
  in_file feature _ (directive {offset = offset} among directs) =
      in_directive
      (record {
        offset = offset;
        among = subst (In offset) (sym directives_are) among;
        is = record { directs = subst (λ bs. Directs (directive_at bs offset) feature) (sym bytes_are) directs; place_is = ap (λ f. record { file = f; offset = offset }) (sym file_is) };
      })
  in_file _ place (type_parameters {node = node} {token = token} {last = last} s begins) = at_node node token features.TypeParameters place (plain (plain_parameters (to_view (λ t. Spans t node nodes.TypeParams token last) s))) begins
  in_file feature place (literal {node = node} {token = token} {last = last} {is = is} s there leaves begins) =
      at_node node token feature place
      (number (record {
        kind = is.kind;
        literal = record { last = last; spans = to_view (λ t. Spans t node nodes.Literal token last) s };
        is_kind = record { is = is; there = ap (λ ts. slice_get ts token) tokens_are ∙ there; kind_is = refl };
        leaves = leaves;
      }))
      begins
  in_file feature place (predeclared {node = node} {token = token} {last = last} {name = name} is key stands has begins) =
      at_node node token feature place
      (named (record {
        last = last;
        is = to_view (λ t. IsOf t node is_name token last) is;
        used = λ k. key (to_tree (λ t. IsKey t node) k);
        stands = (meant.named node feature).1 (record { name = name; stands = stands; is = has });
      }))
      begins
  in_file _ place (goto_ {node = node} {token = token} {last = last} s begins) = at_node node token features.Goto place (plain (plain_goto (to_view (λ t. Spans t node nodes.Goto token last) s))) begins
  in_file _ place (method_expression {node = node} {operand = operand} {token = token} {last = last} s first denotes begins) =
      let view_spans = to_view (λ t. Spans t node nodes.Selector token last) s in
      let a = atom_of operand node denotes (direct (record { token = token; last = last; spans = view_spans }) (to_view (λ t. IsFirstChild t node operand) first)) in
      at_node a.node token features.MethodExpression place (method (record { atom = a.atom; selector = node; last = last; feature_is = refl; is_atom = a.is; before = a.before; spans = view_spans })) begins
  in_file _ place (without_body {decl = decl} {node = node} {at = at} {last = last} {token = token} {end = end} {folder = folder} {path = path} {receiver = receiver} home_is s none under name_is path_of has lacks begins) =
      at_node node token features.FunctionWithoutBody place
      (bodiless (record {
        path = path;
        here = path_is.complete folder path home_is path_of;
        is = subst (λ f. IsBodiless f view.entries.now path node (record { feature = features.FunctionWithoutBody; token = token })) (sym read_is)
            (record {
              decl = decl;
              feature_is = refl;
              above = record { is = record { token = at; last = last; spans = s }; bodiless = none; under = under };
              name = record { end = end; spans = name_is };
              lacks = record { receiver = receiver; has = has; none = subst (λ es. HasEntry es path receiver (text_at (read_of h file) token) → ⊥) (sym entries_are) lacks };
            });
      }))
      begins
