-- Fields with sorts in place of the parameters match these sorts: each parameter that occurs stands for the sort in its place.
use Rattle.std.proofs.Common.{◌≡◌, ℕ, zero, suc, ◌<◌, ◌⊎◌, Bool, if◌then◌else◌, List, [], ◌∷◌, length, map, unwrap_or, option_map, Option, Some, None, slice_get, refl, sym, ◌∙◌, ap, ap₂, subst, ⊎_elim, arith}
use Rattle.std.specs.Option.{option_and_then}
use Rattle.std.proofs.lemmas.Bool.Decides.{Decides-eqb}
use Rattle.std.proofs.lemmas.Option.{none-some, same_Some, slice_get_within}
use Rattle.ct_lemmas.proofs.Lists.{slice_get-there}
use Rattle.ct_lemmas.proofs.Numbers.{same_or_other}
use Rattle.ct_generics.specs.Expression.{Expression, parameter, named, applied, substitute}
use Rattle.ct_generics.specs.Declarations.{Head, Takes}
use Rattle.ct_generics.specs.Occurrence.{Occurs, OccursIn}
use Rattle.ct_sorts.proofs.SameLemmas.{is_same-decides}
use Rattle.ct_instances.specs.Matching.{Assignment, unmatched, assign, matched_parameter, matched, all_matched, sorts_for}

-- ---- one place that is assigned, and the others

length-assign : (i : ℕ) (e : Expression) (m : Assignment) → length (assign i e m) ≡ length m
length-assign i e [] = refl
length-assign zero e (x ∷ m) = refl
length-assign (suc i) e (x ∷ m) = ap suc (length-assign i e m)

assign_here : (i : ℕ) (e : Expression) (m : Assignment) → i < length m → slice_get (assign i e m) i ≡ Some (Some e)
assign_here i e [] within = absurd (omega (arith, within))
assign_here zero e (x ∷ m) within = refl
assign_here (suc i) e (x ∷ m) within = assign_here i e m (omega (arith, within))

assign_other : (i j : ℕ) (e : Expression) (m : Assignment) → (j ≡ i → ⊥) → slice_get (assign i e m) j ≡ slice_get m j
assign_other i j e [] other = refl
assign_other zero zero e (x ∷ m) other = absurd (other refl)
assign_other zero (suc j) e (x ∷ m) other = refl
assign_other (suc i) zero e (x ∷ m) other = refl
assign_other (suc i) (suc j) e (x ∷ m) other = assign_other i j e m (λ same. other (ap suc same))

-- ---- parameters that stand for their arguments

-- each parameter that was matched stands for its argument
pub record IsPart (args : List Expression) (m : Assignment) : Type 0 where
  pub long : length m ≡ length args
  pub part : (i : ℕ) (x : Expression) → slice_get m i ≡ Some (Some x) → slice_get args i ≡ Some x

-- what a parameter stands for it stands for still
abbrev pub Keeps : Assignment → Assignment → Type 0
Keeps m n = (i : ℕ) (x : Expression) → slice_get m i ≡ Some (Some x) → slice_get n i ≡ Some (Some x)

-- it stands for something
abbrev pub IsMet : Assignment → ℕ → Type 0
IsMet m i = (x : Expression) × (slice_get m i ≡ Some (Some x))

-- the field matches with the arguments in it
pub record IsMatchedBack (args : List Expression) (e : Expression) (m : Assignment) : Type 0 where
  pub after : Assignment
  pub is : matched e (substitute args e) m ≡ Some after
  pub part : IsPart args after
  pub keeps : Keeps m after
  pub met : (i : ℕ) → Occurs i e → IsMet after i

module _ (args : List Expression) where
  parameter_back : (j : ℕ) (m : Assignment) (a : Expression) → slice_get args j ≡ Some a → IsPart args m → (o : Option Expression) → slice_get m j ≡ Some o → IsMatchedBack args (parameter j) m
  parameter_back j m a at_a p None at =
      let within : j < length m = slice_get_within m j None at in
      let here = assign_here j a m within in
      record {
        after = assign j a m;
        is = ap₂ (λ (x : Option Expression) (o : Option (Option Expression)). matched_parameter j (unwrap_or x (parameter j)) m o) at_a at;
        part = record {
          long = length-assign j a m ∙ p.long;
          part = λ i x at_i. ⊎_elim
              (λ (same : i ≡ j). ap (slice_get args) same ∙ at_a ∙ same_Some (Some a) (Some x) (sym here ∙ ap (slice_get (assign j a m)) (sym same) ∙ at_i))
              (λ other. p.part i x (sym (assign_other j i a m other) ∙ at_i))
              (same_or_other i j);
        };
        keeps = λ i x at_i. ⊎_elim
            (λ (same : i ≡ j). absurd (none-some x (same_Some None (Some x) (sym at ∙ ap (slice_get m) (sym same) ∙ at_i))))
            (λ other. assign_other j i a m other ∙ at_i)
            (same_or_other i j);
        met = λ i same. (a, ap (slice_get (assign j a m)) same ∙ here);
      }
  parameter_back j m a at_a p (Some first) at =
      let same : first ≡ a = same_Some first a (sym (p.part j first at) ∙ at_a) in
      record {
        after = m;
        is =
            ap₂ (λ (x : Option Expression) (o : Option (Option Expression)). matched_parameter j (unwrap_or x (parameter j)) m o) at_a at
            ∙ ap (λ (b : Bool). if b then Some m else None) ((is_same-decides first a).1 same);
        part = p;
        keeps = λ i x at_i. at_i;
        met = λ i is. (first, ap (slice_get m) is ∙ at);
      }

  pub matched_back : (heads : List Head) (e : Expression) (k : ℕ) (m : Assignment) → Takes heads (length args) k e → IsPart args m → IsMatchedBack args e m
  matched_back heads (parameter j) k m takes p =
      let a = slice_get-there args j takes.1 in
      let o = slice_get-there m j (omega (arith, takes.1, p.long)) in
      parameter_back j m a.0 a.1 p o.0 o.1
  matched_back heads (named g) k m takes p =
      record { after = m; is = ap (λ (b : Bool). if b then Some m else None) ((Decides-eqb g g).1 refl); part = p; keeps = λ i x at. at; met = λ i occurs. absurd occurs }
  matched_back heads (applied f a) k m takes p =
      let first = matched_back heads f (suc k) m takes.0 p in
      let second = matched_back heads a 0 first.after takes.1 first.part in
      record {
        after = second.after;
        is = ap (option_and_then (matched a (substitute args a))) first.is ∙ second.is;
        part = second.part;
        keeps = λ i x at. second.keeps i x (first.keeps i x at);
        met = λ i occurs. ⊎_elim (λ in_f. let met = first.met i in_f in (met.0, second.keeps i met.0 met.1)) (λ in_a. second.met i in_a) occurs;
      }

-- so do all fields of a constructor
pub record AreMatchedBack (args row : List Expression) (m : Assignment) : Type 0 where
  pub after : Assignment
  pub is : all_matched row (map (substitute args) row) m ≡ Some after
  pub part : IsPart args after
  pub keeps : Keeps m after
  pub met : (i : ℕ) → OccursIn row i → IsMet after i

pub all_matched_back : (args : List Expression) (heads : List Head) (row : List Expression) (m : Assignment) → ((j : ℕ) (e : Expression) → slice_get row j ≡ Some e → Takes heads (length args) 0 e) → IsPart args m → AreMatchedBack args row m
all_matched_back args heads [] m takes p = record { after = m; is = refl; part = p; keeps = λ i x at. at; met = λ i occurs. absurd (none-some occurs.1 occurs.2) }
all_matched_back args heads (e ∷ row) m takes p =
    let first = matched_back args heads e 0 m (takes 0 e refl) p in
    let rest = all_matched_back args heads row first.after (λ j x at. takes (suc j) x at) first.part in
    record {
      after = rest.after;
      is = ap (option_and_then (all_matched row (map (substitute args) row))) first.is ∙ rest.is;
      part = rest.part;
      keeps = λ i x at. rest.keeps i x (first.keeps i x at);
      met = λ i occurs. met_in first rest i occurs.0 occurs.1 occurs.2 occurs.3;
    }
  where
    met_in : (first : IsMatchedBack args e m) (rest : AreMatchedBack args row first.after) (i j : ℕ) (x : Expression) → slice_get (e ∷ row) j ≡ Some x → Occurs i x → IsMet rest.after i
    met_in first rest i zero x at occurs =
        let met = first.met i (subst (Occurs i) (sym (same_Some e x at)) occurs) in
        (met.0, rest.keeps i met.0 met.1)
    met_in first rest i (suc j) x at occurs = rest.met i (j, x, at, occurs)

-- at first no parameter was matched
none_matched : (n i : ℕ) (x : Expression) → slice_get (unmatched n) i ≡ Some (Some x) → ⊥
none_matched zero i x at = none-some (Some x) at
none_matched (suc n) zero x at = none-some x (same_Some None (Some x) at)
none_matched (suc n) (suc i) x at = none_matched n i x at

length-unmatched : (n : ℕ) → length (unmatched n) ≡ n
length-unmatched zero = refl
length-unmatched (suc n) = ap suc (length-unmatched n)

pub start_part : (args : List Expression) → IsPart args (unmatched (length args))
start_part args = record { long = length-unmatched (length args); part = λ i x at. absurd (none_matched (length args) i x at) }

-- where each was matched, they stand for the arguments
pub sorts_back : (args : List Expression) (m : Assignment) → IsPart args m → ((i : ℕ) → i < length args → IsMet m i) → sorts_for m ≡ Some args
sorts_back [] [] p met = refl
sorts_back [] (o ∷ m) p met = absurd (omega (arith, p.long))
sorts_back (a ∷ args) [] p met = absurd (omega (arith, p.long))
sorts_back (a ∷ args) (o ∷ m) p met =
    let first = met 0 (omega arith) in
    let is : o ≡ Some first.0 = same_Some o (Some first.0) first.1 in
    let same : first.0 ≡ a = same_Some first.0 a (sym (p.part 0 first.0 first.1)) in
    let long : length m ≡ length args = omega (arith, p.long) in
    let rest = sorts_back args m (record { long = long; part = λ i x at. p.part (suc i) x at }) (λ i within. met (suc i) (omega (arith, within))) in
    ap (λ (x : Option Expression). sorts_for (x ∷ m)) is ∙ ap (option_map (λ (es : List Expression). first.0 ∷ es)) rest ∙ ap (λ (x : Expression). Some (x ∷ args)) same
