-- Numbers and literals that are written are read back.
use Rattle.std.proofs.Common.{◌≡◌, ℕ, ◌<◌, ◌≤◌, Bool, true, false, nat_lt, min, List, [], ◌∷◌, Option, Some, refl, ap, arith}
use Rattle.std.proofs.lemmas.Bool.{ltb-true, lt-ltb}
use Rattle.std.specs.List.{list_all}
use Rattle.ct_lemmas.proofs.Booleans.{both_parts}
use Rattle.ct_sexpr.specs.Expression.{Expression}
use Rattle.ct_sexpr.specs.Written.{is_reserved, forms_symbol}
use Rattle.ct_terms.specs.declared.ids.TermId.{TermId}
use Rattle.ct_terms.specs.declared.ids.Lit.{Lit}
use Rattle.ct_terms.specs.Terms.{most_terms}
use Rattle.ct_log_lines.specs.Forms.{number_bound, number_in, numbers_in, term_numbered, term_in, name_in, each}
use Rattle.ct_log_lines.specs.Equalities.{literal_in}
use Rattle.ct_log_text.specs.Fitting.{is_term}
use Rattle.ct_log_text.specs.Written.{number, numbers, name, literal, items_as}
use Rattle.ct_log_text.specs.Writable.{is_short, are_short}

-- a number below the bound
pub number_back : (n : ℕ) → nat_lt n number_bound ≡ true → number_in (number n) ≡ Some n
number_back n h = rw h refl

-- numbers below the bound
pub numbers_back : (ns : List ℕ) → are_short (numbers ns) ≡ true → numbers_in (numbers ns) ≡ Some ns
numbers_back [] h = refl
numbers_back (n ∷ ns) h =
    let parts = both_parts (nat_lt n number_bound) (are_short (numbers ns)) h in
    rw (number_back n parts.0, numbers_back ns parts.1) refl

-- the number of a term of a table
pub term_small : (count : ℕ) (t : TermId) → count ≤ most_terms → is_term count t ≡ true → t.0 < 400000
term_small count t few below = let h = ltb-true t.0 count below in omega (arith, few, h)

pub numbered_back : (count : ℕ) (t : TermId) → count ≤ most_terms → is_term count t ≡ true → term_numbered t.0 ≡ t
numbered_back count t few below =
    let h = term_small count t few below in
    let least : min t.0 4294967295 ≡ t.0 = omega (arith, h) in
    ap (λ n. record { 0 = n }) least

pub term_back : (count : ℕ) (t : TermId) → count ≤ most_terms → is_term count t ≡ true → term_in (number t.0) ≡ Some t
term_back count t few below =
    let h = term_small count t few below in
    rw (number_back t.0 (lt-ltb t.0 18446744073709551616 (omega (arith, h)))) (ap (λ u. Some u) (numbered_back count t few below))

-- a literal over a term of a table
literal_back_of : (count : ℕ) (t : TermId) (positive : Bool) → count ≤ most_terms → is_term count t ≡ true
    → literal_in (literal (record { term = t; positive = positive })) ≡ Some (record { term = t; positive = positive })
literal_back_of count t true few below = rw (term_back count t few below) refl
literal_back_of count t false few below = rw (term_back count t few below) refl

pub literal_back : (count : ℕ) (l : Lit) → count ≤ most_terms → is_term count l.term ≡ true → literal_in (literal l) ≡ Some l
literal_back count l few below = literal_back_of count l.term l.positive few below

-- a name
name_back_of : (bytes : List ℕ) (forms reserved : Bool) → forms_symbol bytes ≡ forms → is_reserved bytes ≡ reserved → name_in (name bytes) ≡ Some bytes
name_back_of bytes false reserved f r = rw f refl
name_back_of bytes true true f r = rw (f, r) refl
name_back_of bytes true false f r = rw (f, r) (rw r refl)

pub name_back : (bytes : List ℕ) → name_in (name bytes) ≡ Some bytes
name_back bytes = name_back_of bytes (forms_symbol bytes) (is_reserved bytes) refl refl

-- things of one form, of which each is read back
module _ {X : Type 0} (read : Expression → Option X) (item : X → Expression) (fits : X → Bool) (back : (x : X) → fits x ≡ true → is_short (item x) ≡ true → read (item x) ≡ Some x) where
  pub each_back : (xs : List X) → list_all fits xs ≡ true → are_short (items_as item xs) ≡ true → each read (items_as item xs) ≡ Some xs
  each_back [] h k = refl
  each_back (x ∷ xs) h k =
      let good = both_parts (fits x) (list_all fits xs) h in
      let short = both_parts (is_short (item x)) (are_short (items_as item xs)) k in
      rw (back x good.0 short.0, each_back xs good.1 short.1) refl
