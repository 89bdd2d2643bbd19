-- Variables on a stack: what is stored beside them finds the innermost, when one is pushed and when one leaves.
use Rattle.std.proofs.Common.{◌≡◌, ℕ, suc, ◌+◌, ◌-◌, ◌<◌, Bool, true, false, if◌then◌else◌, List, [], ◌∷◌, ◌++◌, length, Option, Some, None, Result, Ok, Err, OnOk, OnErr, refl, sym, ap, subst, ◌∙◌, arith}
use Rattle.std.proofs.lemmas.Option.{same_Some}
use Rattle.std.proofs.lemmas.Map.Text.{hash_map_updates_str}
use Rattle.std.proofs.lemmas.Slice.Eq.{bytes_eq-Decides}
use Rattle.std.specs.Borrow.{Bor}
use Rattle.std.specs.Str.{bytes_eq}
use Rattle.indexmap.specs.IndexMap.{IndexMap, UpdatesBy, get_by}
use Rattle.ct_formulas.specs.Formula.{bind}
use Rattle.ct_sorts.specs.declared.ids.SortId.{SortId}
use Rattle.ct_names.specs.declared.stack.Entry.{Entry}
use Rattle.ct_names.specs.declared.stack.Position.{Position}
use Rattle.ct_names.specs.declared.variables.BoundVariable.{BoundVariable}
use Rattle.ct_names.specs.Bounds.{variable_of, held_name}
use Rattle.ct_names.specs.Variables.{Variable, is_named, find, find_from}
use Rattle.ct_names.specs.Stack.{position_of, shadowed_by, flat, stored_position, stored_position_at, HasNoPosition, variables_of, AreShadowing, ArePositions, IsStack}
use Rattle.ct_names.proofs.BoundLemmas.{bind-append}

-- ---- look-ups

abbrev found : ℕ → SortId → Option (ℕ × SortId)
found n sort = Some (n, sort)

module _ (scope : List Variable) (v : Variable) where
  abbrev here : Position
  here = record { before = length scope; sort = v.sort }

  below-by : (b : Bool) (inner : Option Position) (p : Position) → (inner ≡ Some p → p.before < length scope) → (if b then Some here else inner) ≡ Some p → p.before < suc (length scope)
  below-by true inner p more h =
      let same : length scope ≡ p.before = ap (λ (q : Position). q.before) (same_Some here p h) in
      omega (arith, same)
  below-by false inner p more h = omega (arith, more h)

  none-by : (b : Bool) (k : ℕ) (inner : Option Position) (rest : Option (ℕ × SortId)) → (inner ≡ None → rest ≡ None) → (if b then Some here else inner) ≡ None → (if b then Some (k, v.sort) else rest) ≡ None
  none-by true k inner rest more h = absurd cc
  none-by false k inner rest more h = more h

  some-by : (b : Bool) (k : ℕ) (inner : Option Position) (rest : Option (ℕ × SortId)) (p : Position) → (inner ≡ Some p → rest ≡ Some (k + (suc (length scope) - 1 - p.before), p.sort)) → (if b then Some here else inner) ≡ Some p → (if b then Some (k, v.sort) else rest) ≡ Some (k + (suc (length scope) - 1 - p.before), p.sort)
  some-by true k inner rest p more h =
      let same : k ≡ k + (suc (length scope) - 1 - length scope) = omega arith in
      let at_here : found k v.sort ≡ found (k + (suc (length scope) - 1 - length scope)) v.sort = ap (λ (n : ℕ). found n v.sort) same in
      subst (λ (q : Position). found k v.sort ≡ found (k + (suc (length scope) - 1 - q.before)) q.sort) (same_Some here p h) at_here
  some-by false k inner rest p more h = more h

-- a position is below the length of the scope
pub position-below : (scope : List Variable) (name : List ℕ) (p : Position) → position_of scope name ≡ Some p → p.before < length scope
position-below [] name p e = absurd cc
position-below (v ∷ scope) name p e = below-by scope v (is_named name v.name) (position_of scope name) p (position-below scope name p) e

-- a name without a position is that of no variable
pub find-none : (k : ℕ) (scope : List Variable) (name : List ℕ) → position_of scope name ≡ None → find_from k scope name ≡ None
find-none k [] name e = refl
find-none k (v ∷ scope) name e = none-by scope v (is_named name v.name) k (position_of scope name) (find_from (suc k) scope name) (find-none (suc k) scope name) e

-- a name with a position is that of the variable there
pub find-some : (k : ℕ) (scope : List Variable) (name : List ℕ) (p : Position) → position_of scope name ≡ Some p → find_from k scope name ≡ Some (k + (length scope - 1 - p.before), p.sort)
find-some k [] name p e = absurd cc
find-some k (v ∷ scope) name p e =
    some-by scope v (is_named name v.name) k (position_of scope name) (find_from (suc k) scope name) p
    (λ h.
    let same : suc k + (length scope - 1 - p.before) ≡ k + (suc (length scope) - 1 - p.before) = omega (arith, position-below scope name p h) in
    find-some (suc k) scope name p h ∙ ap (λ (n : ℕ). Some (n, p.sort)) same)
    e

-- ---- a stack as a scope

length-bind : {X : Type 0} (xs env : List X) → length (bind xs env) ≡ length xs + length env
length-bind [] env = omega arith
length-bind (x ∷ xs) env = length-bind xs (x ∷ env) ∙ omega arith

length-variables : (es : List Entry) → length (variables_of es) ≡ length es
length-variables [] = refl
length-variables (e ∷ es) = ap suc (length-variables es)

pub length-scope : (entries : List Entry) → length (variables_of (bind entries [])) ≡ length entries
length-scope entries = length-variables (bind entries []) ∙ length-bind entries [] ∙ omega arith

pub bind-last : (entries : List Entry) (last : Entry) → bind (entries ++ last ∷ []) [] ≡ last ∷ bind entries []
bind-last entries last = bind-append entries (last ∷ []) []

-- ---- the positions that are stored

-- what a look-up finds
module _ {S : Type 0} (entries : List Entry) (positions : IndexMap (Bor (List ℕ)) (Option Position) S) (is : IsStack entries positions) (scope : List Variable) (seen : variables_of (bind entries []) ≡ scope) (name : List ℕ) where
  position-seen : stored_position positions name ≡ position_of scope name
  position-seen = is.stored name ∙ ap (λ (vs : List Variable). position_of vs name) seen

  length-seen : length scope ≡ length entries
  length-seen = ap (λ (vs : List Variable). length vs) (sym seen) ∙ length-scope entries

  pub below-seen : (p : Position) (len : ℕ) → Some p ≡ stored_position positions name → len ≡ length entries → p.before < len
  below-seen p len is_stored long = omega (arith, position-below scope name p (sym position-seen ∙ sym is_stored), length-seen, long)

  pub found-seen : (p : Position) (len : ℕ) → Some p ≡ stored_position positions name → len ≡ length entries → Some (len - 1 - p.before, p.sort) ≡ find scope name
  found-seen p len is_stored long =
      ap (λ (n : ℕ). Some (n, p.sort)) (omega (arith, length-seen, long)) ∙ sym (find-some 0 scope name p (sym position-seen ∙ sym is_stored))

  pub none-seen : None ≡ stored_position positions name → None ≡ find scope name
  none-seen none_stored = sym (find-none 0 scope name (sym position-seen ∙ sym none_stored))

pub stored_position_as : {S : Type 0} (positions : IndexMap (Bor (List ℕ)) (Option Position) S) (scope : List Variable) → ArePositions positions scope → (name : Option (List ℕ)) → stored_position_at positions name ≡ shadowed_by scope name
stored_position_as positions scope stored None = refl
stored_position_as positions scope stored (Some name) = stored name

-- what is stored once a position is put under a name
pub stored_position-put : {S : Type 0} (positions more : IndexMap (Bor (List ℕ)) (Option Position) S) (own : List ℕ) (position : Option Position) → UpdatesBy (λ x y. bytes_eq x.now y.now) (λ k. bytes_eq own k.now) positions more (Some position) → (other : List ℕ) → stored_position more other ≡ (if bytes_eq own other then position else stored_position positions other)
stored_position-put positions more own position updates other = ap flat (hash_map_updates_str own positions more (Some position) updates other) ∙ at (bytes_eq own other)
  where
    at : (b : Bool) → flat (if b then Some position else get_by (λ (key : Bor (List ℕ)). bytes_eq other key.now) positions) ≡ (if b then position else stored_position positions other)
    at true = refl
    at false = refl

-- ---- one variable more, and one less

abbrev Puts : {S : Type 0} → IndexMap (Bor (List ℕ)) (Option Position) S → IndexMap (Bor (List ℕ)) (Option Position) S → Option (List ℕ) → Option Position → Type 0
Puts positions more name position = (other : List ℕ) → stored_position more other ≡ (if is_named other name then position else stored_position positions other)

pub IsStack-push : {S : Type 0} (entries : List Entry) (positions more : IndexMap (Bor (List ℕ)) (Option Position) S) (bound : BoundVariable) (shadowed : Option Position) (before : ℕ) → IsStack entries positions → before ≡ length entries → shadowed ≡ stored_position_at positions (held_name bound.name) → Puts positions more (held_name bound.name) (Some (record { before = before; sort = bound.sort })) → IsStack (entries ++ (record { bound = bound; shadowed = shadowed }) ∷ []) more
IsStack-push entries positions more bound shadowed before is at had writes =
    let es = bind entries [] in
    let name = held_name bound.name in
    let last : Entry = record { bound = bound; shadowed = shadowed } in
    let stored : ArePositions more (variable_of bound ∷ variables_of es) = λ other.
    writes other
    ∙ ap (λ (n : ℕ). if is_named other name then Some (record { before = n; sort = bound.sort }) else stored_position positions other) (at ∙ sym (length-scope entries))
    ∙ ap (λ (o : Option Position). if is_named other name then Some (record { before = length (variables_of es); sort = bound.sort }) else o) (is.stored other) in
    record {
      shadowing = subst AreShadowing (sym (bind-last entries last)) (had ∙ stored_position_as positions (variables_of es) is.stored name, is.shadowing);
      stored = subst (λ (all : List Entry). ArePositions more (variables_of all)) (sym (bind-last entries last)) stored;
    }

-- a name that stands on the stack has a position
stands : (scope : List Variable) (v : Variable) (name : List ℕ) → v.name ≡ Some name → position_of (v ∷ scope) name ≡ None → ⊥
stands scope v name named none = absurd (at (is_named name v.name) (ap (is_named name) named ∙ (bytes_eq-Decides name name).1 refl) none)
  where
    at : (b : Bool) → b ≡ true → (if b then Some (record { before = length scope; sort = v.sort }) else position_of scope name) ≡ None → ⊥
    at true is h = absurd cc
    at false is h = absurd cc

-- what is stored below the innermost, once its name has back the position that it had before
restored : {S : Type 0} (es : List Entry) (last : Entry) (positions less : IndexMap (Bor (List ℕ)) (Option Position) S) → AreShadowing (last ∷ es) → ArePositions positions (variables_of (last ∷ es)) → Puts positions less (held_name last.bound.name) last.shadowed → ArePositions less (variables_of es)
restored es last positions less shadowing stored writes other = writes other ∙ at (held_name last.bound.name) shadowing.0 (stored other)
  where
    scope : List Variable
    scope = variables_of es

    by : (b : Bool) (own : List ℕ) (p : Option Position) → bytes_eq own other ≡ b → last.shadowed ≡ position_of scope own → p ≡ (if b then Some (record { before = length scope; sort = last.bound.sort }) else position_of scope other) → (if b then last.shadowed else p) ≡ position_of scope other
    by true own p same had is = had ∙ ap (position_of scope) ((bytes_eq-Decides own other).0 same)
    by false own p same had is = is

    at : (name : Option (List ℕ)) → last.shadowed ≡ shadowed_by scope name → stored_position positions other ≡ (if is_named other name then Some (record { before = length scope; sort = last.bound.sort }) else position_of scope other) → (if is_named other name then last.shadowed else stored_position positions other) ≡ position_of scope other
    at None had is = is
    at (Some own) had is = by (bytes_eq own other) own (stored_position positions other) refl had is

none_stored-never : {S : Type 0} (es : List Entry) (last : Entry) (positions : IndexMap (Bor (List ℕ)) (Option Position) S) (name : Option (List ℕ)) → held_name last.bound.name ≡ name → HasNoPosition positions name → ArePositions positions (variables_of (last ∷ es)) → ⊥
none_stored-never es last positions None e h stored = h
none_stored-never es last positions (Some own) e h stored = stands (variables_of es) (variable_of last.bound) own e (sym (stored own) ∙ h)

written : {S A E : Type 0} (es : List Entry) (last : Entry) (positions less : IndexMap (Bor (List ℕ)) (Option Position) S) (r : Result A E) → OnOk r (Puts positions less (held_name last.bound.name) last.shadowed) → OnErr r (HasNoPosition positions (held_name last.bound.name)) → ArePositions positions (variables_of (last ∷ es)) → Puts positions less (held_name last.bound.name) last.shadowed
written es last positions less (Ok x) h k stored = h
written es last positions less (Err x) h k stored = absurd (none_stored-never es last positions (held_name last.bound.name) refl k stored)

pub IsStack-pop : {S A E : Type 0} (entries before : List Entry) (last : Entry) (positions less : IndexMap (Bor (List ℕ)) (Option Position) S) (r : Result A E) → IsStack before positions → before ≡ entries ++ last ∷ [] → OnOk r (Puts positions less (held_name last.bound.name) last.shadowed) → OnErr r (HasNoPosition positions (held_name last.bound.name)) → IsStack entries less
IsStack-pop entries before last positions less r is split puts none_stored =
    let es = bind entries [] in
    let whole : bind before [] ≡ last ∷ es = ap (λ (xs : List Entry). bind xs []) split ∙ bind-last entries last in
    let shadowing : AreShadowing (last ∷ es) = subst AreShadowing whole is.shadowing in
    let stored : ArePositions positions (variables_of (last ∷ es)) = subst (λ (xs : List Entry). ArePositions positions (variables_of xs)) whole is.stored in
    record { shadowing = shadowing.1; stored = restored es last positions less shadowing stored (written es last positions less r puts none_stored stored) }
