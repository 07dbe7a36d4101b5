-- What one more visited node leaves.
use Rattle.std.proofs.Common.{◌≡◌, inl, inr, ℕ, zero, suc, ◌+◌, ◌-◌, ◌<◌, ◌≤◌, take, drop, Bool, true, false, not, ◌&&◌, ◌||◌, if◌then◌else◌, List, [], ◌∷◌, ◌++◌, map, length, get_or, refl, sym, subst, ap, ◌∙◌, arith, length-append}
use Rattle.std.specs.Prelude.{slice_get, Option, None, Some}
use Rattle.std.specs.Option.{option_map}
use Rattle.std.proofs.lemmas.Bool.{cases_lt}
use Rattle.std.proofs.lemmas.List.{get_or_append_left}
use Rattle.std.proofs.Math.Seq.{get_or-append_seam}
use Rattle.snap_ast.specs.Lawful.{Lawful}
use Rattle.snap_ast.specs.declared.form.Form.{Form}
use Rattle.snap_ast.specs.declared.tree.Tree.{Tree}
use Rattle.snap_ast.specs.declared.tree.TreeNode.{TreeNode}
use Rattle.snap_graph.specs.declared.kind.ScopeKind.{ScopeKind}
use Rattle.snap_scope.specs.Chains.{Table, chain_in, nothing, scope_in}
use Rattle.snap_scope.specs.Visit.{Enters, IsBelow, Known, KnownAt, Right, RightAt, Visited, chain_of_child, child_context, entry_at}
use Rattle.snap_scope.specs.declared.context.Context.{Context}
use Rattle.snap_scope.specs.declared.context.NodeEntry.{NodeEntry}
use Rattle.spec_scopes.proofs.Standing.{child_below, no_parent, one_parent}
use Rattle.spec_scopes.proofs.Spans.{one_node}
use Rattle.spec_scopes.proofs.Firsts.{none_more}
use Rattle.spec_scopes.specs.Names.{Declared}
use Rattle.spec_scopes.specs.Round.{AtTop, IsAmong, Stands, Step, Within, chain, holds, inside, is_function, is_loop, numbers, step}
use Rattle.spec_scopes.specs.Slots.{places}
use Rattle.spec_scopes.specs.Told.{error_at}
use Rattle.spec_scopes.specs.declared.place.SlotPlace.{SlotPlace}
use Rattle.spec_scopes.specs.Scopes.{Scope, Slot, made, made_of, names_of, own_names, scope_of, slot_of}

got_left : {A : Type 0} → (xs ys : List A) (i : ℕ) (x : A) → slice_get xs i ≡ Some x → slice_get (xs ++ ys) i ≡ Some x
got_left [] ys i x e = absurd cc
got_left (z ∷ xs) ys zero x e = e
got_left (z ∷ xs) ys (suc i) x e = got_left xs ys i x e

got_end : {A : Type 0} → (xs : List A) (x : A) → slice_get (xs ++ x ∷ []) (length xs) ≡ Some x
got_end [] x = refl
got_end (y ∷ ys) x = got_end ys x

-- ---- a table that has grown

-- what stood in a table stands in a later one
record Grown (old new : Table) : Type 0 where
  chains : (k : ℕ) → k < length old.chains → (k < length new.chains) × (chain_in new k ≡ chain_in old k)
  scopes : (k : ℕ) → k < length old.scopes → (k < length new.scopes) × (scope_in new.scopes k ≡ scope_in old.scopes k)

pushed_below : {A : Type 0} → (xs more : List A) (x d : A) (k : ℕ) → more ≡ xs ++ x ∷ [] → k < length xs → (k < length more) × (get_or more k d ≡ get_or xs k d)
pushed_below xs more x d k e below =
    let long : length more ≡ length (xs ++ x ∷ []) = ap (λ (l : List _). length l) e in
    (omega (arith, long, length-append xs (x ∷ [])), ap (λ (l : List _). get_or l k d) e ∙ get_or_append_left xs (x ∷ []) d k below)

pushed_end : {A : Type 0} → (xs more : List A) (x d : A) (k : ℕ) → more ≡ xs ++ x ∷ [] → k ≡ length xs → (k < length more) × (get_or more k d ≡ x)
pushed_end xs more x d k e at =
    let long : length more ≡ length (xs ++ x ∷ []) = ap (λ (l : List _). length l) e in
    (omega (arith, long, length-append xs (x ∷ [])), ap (λ (l : List _). get_or l k d) e ∙ ap (λ (n : ℕ). get_or (xs ++ x ∷ []) n d) at ∙ get_or-append_seam xs x [] d)

grown : (chain : ℕ) (kind : ScopeKind) (slots : List Slot) (own : Option ℕ) (old new : Table) → Enters chain kind slots own old new → Grown old new
grown chain kind slots None old new h = record {
  chains = λ k below. subst (λ (t : Table). (k < length t.chains) × (chain_in t k ≡ chain_in old k)) (sym h.1) (below, refl);
  scopes = λ k below. subst (λ (t : Table). (k < length t.scopes) × (scope_in t.scopes k ≡ scope_in old.scopes k)) (sym h.1) (below, refl);
}
grown chain kind slots (Some own) old new h = record {
  chains = λ k below. pushed_below old.chains new.chains (record { kind = kind; slots = slots } ∷ chain_in old chain) [] k h.3 below;
  scopes = λ k below. pushed_below old.scopes new.scopes (record { kind = kind; slots = slots }) nothing k h.2 below;
}

right_grown : (tree : Tree) (old new : Table) (context : Context) (steps : List Step) → Grown old new → Right tree old context steps → Right tree new context steps
right_grown tree old new context steps more is =
    let it = more.chains context.chain is.below in
    record { below = it.0; chain_is = it.1 ∙ is.chain_is; loop_is = is.loop_is; function_is = is.function_is }

below_grown : (old new : Table) (own : Option ℕ) → Grown old new → IsBelow (length old.scopes) own → (IsBelow (length new.scopes) own) × (option_map (scope_in new.scopes) own ≡ option_map (scope_in old.scopes) own)
below_grown old new None more is = (tt, refl)
below_grown old new (Some own) more is = let it = more.scopes own is in (it.0, ap Some it.1)

-- what stands in a list stands in a longer one
pub between_left : {A : Type 0} → (xs ys : List A) (first count : ℕ) → first + count ≤ length xs → take count (drop first (xs ++ ys)) ≡ take count (drop first xs)
between_left [] ys zero zero within = refl
between_left [] ys zero (suc count) within = absurd (omega arith)
between_left [] ys (suc first) count within = absurd (omega arith)
between_left (x ∷ xs) ys zero zero within = refl
between_left {A} (x ∷ xs) ys zero (suc count) within = ap (λ (zs : List A). x ∷ zs) (between_left xs ys zero count (omega arith))
between_left (x ∷ xs) ys (suc first) count within = between_left xs ys first count (omega arith)

all_taken : {A : Type 0} → (ys : List A) → take (length ys) ys ≡ ys
all_taken [] = refl
all_taken {A} (y ∷ ys) = ap (λ (zs : List A). y ∷ zs) (all_taken ys)

pub between_end : {A : Type 0} → (xs ys : List A) → take (length ys) (drop (length xs) (xs ++ ys)) ≡ ys
between_end [] ys = all_taken ys
between_end (x ∷ xs) ys = between_end xs ys

known_grown : (tree : Tree) (old new : Table) (found more_found : List (Option SlotPlace)) (entry : NodeEntry) (node : TreeNode) (steps : List Step) → Grown old new → Known tree old found entry node steps → Known tree new (found ++ more_found) entry node steps
known_grown tree old new found more_found entry node steps more is =
    let round = more.chains entry.chain is.is_entry.0 in
    let own = below_grown old new entry.own more is.is_entry.1 in
    record {
      is_entry = (round.0, own.0, omega (arith, is.is_entry.2, length-append found more_found));
      scopes_are = ap (λ (c : List Scope). record { round = c; own = option_map (scope_in new.scopes) entry.own; names = take entry.count (drop entry.first (found ++ more_found)) }) round.1
          ∙ ap (λ (o : Option Scope). record { round = chain_in old entry.chain; own = o; names = take entry.count (drop entry.first (found ++ more_found)) }) own.1
          ∙ ap (λ (p : List (Option SlotPlace)). record { round = chain_in old entry.chain; own = option_map (scope_in old.scopes) entry.own; names = p }) (between_left found more_found entry.first entry.count is.is_entry.2) ∙ is.scopes_are;
    }

-- ---- the scope that a node makes

abbrev OwnIs : Table → ℕ → Option ℕ → Option Scope → Table → Type 0
OwnIs old chain own made new = IsBelow (length new.scopes) own × (option_map (scope_in new.scopes) own ≡ made)

own_is : (chain : ℕ) (kind : ScopeKind) (names : List Declared) (own : Option ℕ) (old new : Table) → length old.scopes ≡ length old.chains → Enters chain kind (map slot_of names) own old new → OwnIs old chain own (made_of kind names) new
own_is chain kind [] None old new paired h = (tt, refl)
own_is chain kind [] (Some own) old new paired h = absurd (omega (arith, h.0))
own_is chain kind (name ∷ names) None old new paired h = let e : map slot_of (name ∷ names) ≡ [] = h.0 in absurd cc
own_is chain kind (name ∷ names) (Some own) old new paired h =
    let it = pushed_end old.scopes new.scopes (scope_of (names_of kind (name ∷ names))) nothing own h.2 (h.1 ∙ sym paired) in
    (it.0, ap Some it.1)

-- the chain of a child
child_chain_is : (form : Form) (nodes : List TreeNode) (at : ℕ) (names : List Declared) (kind : ScopeKind) (own : Option ℕ) (child : ℕ) (old new : Table) (round : List Scope) → at < length old.chains → chain_in old at ≡ round → Enters at kind (map slot_of names) own old new
    → (chain_of_child form at own child < length new.chains) × (chain_in new (chain_of_child form at own child) ≡ (if holds form child then inside (made_of kind names) round else round))
child_chain_is form nodes at [] kind None child old new round below is h =
    (subst (λ (t : Table). at < length t.chains) (sym h.1) below, ap (λ (t : Table). chain_in t at) h.1 ∙ is ∙ both (holds form child))
  where
    both : (b : Bool) → round ≡ (if b then round else round)
    both true = refl
    both false = refl
child_chain_is form nodes at [] kind (Some own) child old new round below is h = absurd (omega (arith, h.0))
child_chain_is form nodes at (name ∷ names) kind None child old new round below is h = let e : map slot_of (name ∷ names) ≡ [] = h.0 in absurd cc
child_chain_is form nodes at (name ∷ names) kind (Some own) child old new round below is h = by (holds form child)
  where
    by : (b : Bool) → ((if b then own else at) < length new.chains) × (chain_in new (if b then own else at) ≡ (if b then scope_of (names_of kind (name ∷ names)) ∷ round else round))
    by true = let it = pushed_end old.chains new.chains (scope_of (names_of kind (name ∷ names)) ∷ chain_in old at) [] own h.3 h.1 in (it.0, it.1 ∙ ap (λ (c : List Scope). scope_of (names_of kind (name ∷ names)) ∷ c) is)
    by false = let it = pushed_below old.chains new.chains (scope_of (names_of kind (name ∷ names)) ∷ chain_in old at) [] at h.3 below in (it.0, it.1 ∙ is)

child_right : (tree : Tree) (form : Form) (context : Context) (own : Option ℕ) (child : ℕ) (old new : Table) (steps : List Step) → Right tree old context steps
    → Enters context.chain (own_names tree.nodes form).kind (map slot_of (own_names tree.nodes form).names) own old new → Right tree new (child_context form context own child) (step form child ∷ steps)
child_right tree form context own child old new steps is h =
    let it = child_chain_is form tree.nodes context.chain (own_names tree.nodes form).names (own_names tree.nodes form).kind own child old new (chain tree steps) is.below is.chain_is h in
    record {
      below = it.0;
      chain_is = it.1;
      loop_is = ap (λ (b : Bool). is_loop form || (not (is_function form) && b)) is.loop_is;
      function_is = ap (λ (b : Bool). is_function form || b) is.function_is;
    }

-- ---- the contexts of visited nodes

right_at : (tree : Tree) (table : Table) (contexts : List Context) (number : ℕ) (context : Context) (steps : List Step) → slice_get contexts number ≡ Some context → RightAt tree table contexts number steps → Right tree table context steps
right_at tree table contexts number context steps e h = let same : h.0 ≡ context = cc in subst (λ (c : Context). Right tree table c steps) same h.2

-- the context of the next node is right
pub next_right : (tree : Tree) (table : Table) (contexts : List Context) (entries : List NodeEntry) (found : List (Option SlotPlace)) (number : ℕ) (context : Context) → Lawful tree → Visited tree table contexts entries found number → slice_get contexts number ≡ Some context → {steps : List Step} → Stands tree number steps → Right tree table context steps
next_right tree table contexts entries found number context lawful is e (AtTop among) = right_at tree table contexts number context [] e (is.top number among)
next_right tree table contexts entries found number context lawful is e (Within {parent = parent} {node = node} {round = round} stands at among) =
    right_at tree table contexts number context (step node.form number ∷ round) e (is.inner parent number node round (child_below tree parent number node lawful at among).0 at among stands)

module _ (tree : Tree) (lawful : Lawful tree) (number : ℕ) (node : TreeNode) (at : slice_get tree.nodes number ≡ Some node) (old new : Table) (contexts after : List Context) (entries : List NodeEntry) (found : List (Option SlotPlace)) (context : Context) (own : Option ℕ)
    (is : Visited tree old contexts entries found number) (context_at : slice_get contexts number ≡ Some context)
    (enters : Enters context.chain (own_names tree.nodes node.form).kind (map slot_of (own_names tree.nodes node.form).names) own old new)
    (long : length after ≡ length contexts) (children : (child : ℕ) → IsAmong (numbers node.form) child → slice_get after child ≡ Some (child_context node.form context own child))
    (others : (other : ℕ) → (IsAmong (numbers node.form) other → ⊥) → slice_get after other ≡ slice_get contexts other)
    (clean : error_at tree number node ≡ None) where
  more : Grown old new
  more = grown context.chain (own_names tree.nodes node.form).kind (map slot_of (own_names tree.nodes node.form).names) own old new enters

  -- a node that is no child of this one keeps its context
  kept : (other : ℕ) (steps : List Step) → (IsAmong (numbers node.form) other → ⊥) → RightAt tree old contexts other steps → RightAt tree new after other steps
  kept other steps apart h = (h.0, others other apart ∙ h.1, right_grown tree old new h.0 steps more h.2)

  top_right : (other : ℕ) → IsAmong tree.top other → RightAt tree new after other []
  top_right other among = kept other [] (λ child. no_parent tree lawful other number node among at child) (is.top other among)

  inner_right : (parent other : ℕ) (another : TreeNode) (round : List Step) → parent < number + 1 → slice_get tree.nodes parent ≡ Some another → IsAmong (numbers another.form) other → Stands tree parent round → RightAt tree new after other (step another.form other ∷ round)
  inner_right parent other another round below e among stands =
      elim (cases_lt parent number) as (λ _. RightAt tree new after other (step another.form other ∷ round)) [
        | inl before ↦ kept other (step another.form other ∷ round) (λ child. let same : parent ≡ number = one_parent tree lawful other parent number another node e among at child in absurd (omega arith)) (is.inner parent other another round before e among stands)
        | inr not_before ↦ (let here : parent ≡ number = omega arith in
            let same : node ≡ another = one_node tree.nodes number node another at (subst (λ (n : ℕ). slice_get tree.nodes n ≡ Some another) here e) in
            let right : Right tree old context round = next_right tree old contexts entries found number context lawful is context_at (subst (λ (n : ℕ). Stands tree n round) here stands) in
            subst (λ (n : TreeNode). RightAt tree new after other (step n.form other ∷ round)) same
            (let child : IsAmong (numbers node.form) other = subst (λ (n : TreeNode). IsAmong (numbers n.form) other) (sym same) among in
            (child_context node.form context own other, children other child, child_right tree node.form context own other old new round right enters)))
      ]

  -- the places of its names
  abbrev mine_found : List (Option SlotPlace)
  mine_found = places (chain_in old context.chain) node.form

  abbrev entry : NodeEntry
  entry = entry_at context own (length found) (length mine_found)

  known_here : (steps : List Step) → Stands tree number steps → Known tree new (found ++ mine_found) entry node steps
  known_here steps stands =
      let right : Right tree old context steps = next_right tree old contexts entries found number context lawful is context_at stands in
      let it = more.chains context.chain right.below in
      let mine = own_is context.chain (own_names tree.nodes node.form).kind (own_names tree.nodes node.form).names own old new is.paired enters in
      record {
        is_entry = (it.0, mine.0, omega (arith, length-append found mine_found));
        scopes_are = ap (λ (p : List (Option SlotPlace)). record { round = chain_in new context.chain; own = option_map (scope_in new.scopes) own; names = p }) (between_end found mine_found)
            ∙ ap (λ (c : List Scope). record { round = c; own = option_map (scope_in new.scopes) own; names = mine_found }) (it.1 ∙ right.chain_is)
            ∙ ap (λ (o : Option Scope). record { round = chain tree steps; own = o; names = mine_found }) mine.1
            ∙ ap (λ (c : List Scope). record { round = chain tree steps; own = made tree.nodes node.form; names = places c node.form }) right.chain_is;
      }

  known_more : (other : ℕ) (another : TreeNode) (steps : List Step) → other < number + 1 → slice_get tree.nodes other ≡ Some another → Stands tree other steps → KnownAt tree new (entries ++ entry ∷ []) (found ++ mine_found) other another steps
  known_more other another steps below e stands =
      elim (cases_lt other number) as (λ _. KnownAt tree new (entries ++ entry ∷ []) (found ++ mine_found) other another steps) [
        | inl before ↦ (let h = is.known other another steps before e stands in (h.0, got_left entries (entry ∷ []) other h.0 h.1, known_grown tree old new found mine_found h.0 another steps more h.2))
        | inr not_before ↦ (let here : number ≡ other = omega arith in
            let same : node ≡ another = one_node tree.nodes number node another at (subst (λ (n : ℕ). slice_get tree.nodes n ≡ Some another) (sym here) e) in
            let end : length entries ≡ other = is.many ∙ here in (
              entry,
              subst (λ (n : ℕ). slice_get (entries ++ entry ∷ []) n ≡ Some entry) end (got_end entries entry),
              subst (λ (n : TreeNode). Known tree new (found ++ mine_found) entry n steps) same (known_here steps (subst (λ (n : ℕ). Stands tree n steps) (sym here) stands)),
            ))
      ]

  paired_more : (own : Option ℕ) (kind : ScopeKind) (slots : List Slot) (chain : ℕ) → Enters chain kind slots own old new → length new.scopes ≡ length new.chains
  paired_more None kind slots chain h = subst (λ (t : Table). length t.scopes ≡ length t.chains) (sym h.1) is.paired
  paired_more (Some own) kind slots chain h =
      let scope : Scope = record { kind = kind; slots = slots } in
      let s : length new.scopes ≡ length (old.scopes ++ scope ∷ []) = ap (λ (l : List Scope). length l) h.2 in
      let c : length new.chains ≡ length (old.chains ++ (scope ∷ chain_in old chain) ∷ []) = ap (λ (l : List (List Scope)). length l) h.3 in
      omega (arith, s, c, is.paired, length-append old.scopes (scope ∷ []), length-append old.chains ((scope ∷ chain_in old chain) ∷ []))

  pub visited_more : (now : List NodeEntry) (placed : List (Option SlotPlace)) → now ≡ entries ++ entry_at context own (length found) (length placed - length found) ∷ [] → placed ≡ found ++ places (chain_in old context.chain) node.form → Visited tree new after now placed (number + 1)
  visited_more now placed e d =
      let script = more.scopes 0 is.some in
      let count : length placed - length found ≡ length mine_found = omega (arith, ap (λ (l : List (Option SlotPlace)). length l) d, length-append found mine_found) in
      let now_is : now ≡ entries ++ entry ∷ [] = e ∙ ap (λ (n : ℕ). entries ++ entry_at context own (length found) n ∷ []) count in
      subst (λ (placed : List (Option SlotPlace)). Visited tree new after now placed (number + 1)) (sym d) (subst (λ (now : List NodeEntry). Visited tree new after now (found ++ mine_found) (number + 1)) (sym now_is) (record {
        long = long ∙ is.long;
        many = omega (arith, is.many, length-append entries (entry ∷ []));
        paired = paired_more own (own_names tree.nodes node.form).kind (map slot_of (own_names tree.nodes node.form).names) context.chain enters;
        some = omega (arith, script.0);
        script = script.1 ∙ is.script;
        apart = is.apart;
        top = top_right;
        inner = inner_right;
        known = known_more;
        clean = none_more (error_at tree) tree.nodes number node is.clean at clean;
      }))
