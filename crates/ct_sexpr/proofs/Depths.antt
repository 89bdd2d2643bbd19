-- How deep an expression nests, and how deep its tokens do.
use Rattle.std.proofs.Common.{◌≡◌, ℕ, ◌+◌, ◌-◌, ◌<◌, ◌≤◌, true, nat_lt, max, List, [], ◌∷◌, ◌++◌, Some, refl, sym, ap, ◌∙◌, append_assoc, arith}
use Rattle.std.proofs.lemmas.Bool.Decides.{nat_tests}
use Rattle.std.proofs.lemmas.List.{append-nil, append_cancel_right}
use Rattle.std.proofs.Math.Nat.{le-max_left, le-max_right}
use Rattle.ct_sexpr.specs.Token.{Token, opening, closing}
use Rattle.ct_sexpr.specs.Expression.{Expression, leaf, list, Expressions, none, more, tokens_of, tokens_of_each, nesting, nesting_of_each}
use Rattle.ct_sexpr.specs.Reading.{nesting_limit, open_after, BeginsCommand}
use Rattle.ct_sexpr.specs.Written.{canonical, canonical_each}
use Rattle.ct_sexpr.proofs.Nesting.{passed, some_open}
use Rattle.ct_sexpr.proofs.Texts.{command_closes}

-- quoting opens and closes no parenthesis
mutual
  pub nesting-canonical : (e : Expression) → nesting (canonical e) ≡ nesting e
  nesting-canonical (leaf a) = refl
  nesting-canonical (list es) = ap (λ n. n + 1) (nesting-canonical_each es)

  pub nesting-canonical_each : (es : Expressions) → nesting_of_each (canonical_each es) ≡ nesting_of_each es
  nesting-canonical_each none = refl
  nesting-canonical_each (more e es) = ap (λ n. max n (nesting_of_each (canonical_each es))) (nesting-canonical e) ∙ ap (λ n. max (nesting e) n) (nesting-canonical_each es)

below_limit : (depth : ℕ) → depth < nesting_limit → nat_lt depth nesting_limit ≡ true
below_limit depth h = grind (arith, nat_tests)

is_below_limit : (depth : ℕ) → nat_lt depth nesting_limit ≡ true → depth < nesting_limit
is_below_limit depth h = grind (arith, nat_tests)

-- a closing parenthesis closes the one before it
closes : (depth : ℕ) (ts : List Token) → 0 < depth → open_after (closing ∷ ts) (depth + 1) ≡ open_after ts depth
closes depth ts some =
    let inner : nat_lt 1 (depth + 1) ≡ true = grind (arith, nat_tests) in
    let back : depth + 1 - 1 ≡ depth = omega arith in
    rw inner (ap (open_after ts) back)

-- inside parentheses the tokens of an expression that nests within the limit leave open what was open
mutual
  pub inside_open : (e : Expression) (ts : List Token) (depth : ℕ) → 0 < depth → depth + nesting e ≤ nesting_limit → open_after (tokens_of e ++ ts) depth ≡ open_after ts depth
  inside_open (leaf a) ts depth some within = rw (some_open depth some) refl
  inside_open (list es) ts depth some within =
      let opens = below_limit depth (omega (arith, within)) in
      let deeper = inside_open_each es (closing ∷ ts) (depth + 1) (omega arith) (omega (arith, within)) in
      rw opens (ap (λ l. open_after l (depth + 1)) (append_assoc (tokens_of_each es) (closing ∷ []) ts) ∙ deeper ∙ closes depth ts some)

  pub inside_open_each : (es : Expressions) (ts : List Token) (depth : ℕ) → 0 < depth → depth + nesting_of_each es ≤ nesting_limit →
      open_after (tokens_of_each es ++ ts) depth ≡ open_after ts depth
  inside_open_each none ts depth some within = refl
  inside_open_each (more e es) ts depth some within =
      let left = le-max_left (nesting e) (nesting_of_each es) in
      let right = le-max_right (nesting e) (nesting_of_each es) in
      ap (λ l. open_after l depth) (append_assoc (tokens_of e) (tokens_of_each es) ts)
      ∙ inside_open e (tokens_of_each es ++ ts) depth some (omega (arith, within, left))
      ∙ inside_open_each es ts depth some (omega (arith, within, right))

max_within : (depth n m : ℕ) → depth + n ≤ nesting_limit → depth + m ≤ nesting_limit → depth + max n m ≤ nesting_limit
max_within depth n m h k = omega (arith, h, k)

-- where tokens leave something open, the expressions among them nest within the limit
mutual
  nests_within : (e : Expression) (ts : List Token) (depth m : ℕ) → depth ≤ nesting_limit → open_after (tokens_of e ++ ts) depth ≡ Some m →
      (depth + nesting e ≤ nesting_limit) × (open_after ts depth ≡ Some m)
  nests_within (leaf a) ts depth m low o = (omega (arith, low), (passed (nat_lt 0 depth) (open_after ts depth) m o).1)
  nests_within (list es) ts depth m low o =
      let p = passed (nat_lt depth nesting_limit) (open_after ((tokens_of_each es ++ closing ∷ []) ++ ts) (depth + 1)) m o in
      let below = is_below_limit depth p.0 in
      let inside = each_nests_within es (closing ∷ ts) (depth + 1) m (omega (arith, below)) (ap (λ l. open_after l (depth + 1)) (sym (append_assoc (tokens_of_each es) (closing ∷ []) ts)) ∙ p.1) in
      let back : depth + 1 - 1 ≡ depth = omega arith in
      (omega (arith, inside.0), ap (open_after ts) (sym back) ∙ (passed (nat_lt 1 (depth + 1)) (open_after ts (depth + 1 - 1)) m inside.1).1)

  each_nests_within : (es : Expressions) (ts : List Token) (depth m : ℕ) → depth ≤ nesting_limit → open_after (tokens_of_each es ++ ts) depth ≡ Some m →
      (depth + nesting_of_each es ≤ nesting_limit) × (open_after ts depth ≡ Some m)
  each_nests_within none ts depth m low o = (omega (arith, low), o)
  each_nests_within (more e es) ts depth m low o =
      let first = nests_within e (tokens_of_each es ++ ts) depth m low (ap (λ l. open_after l depth) (sym (append_assoc (tokens_of e) (tokens_of_each es) ts)) ∙ o) in
      let others = each_nests_within es ts depth m low first.1 in
      (max_within depth (nesting e) (nesting_of_each es) first.0 others.0, others.1)

-- a command nests within the limit
pub command_nests : (bytes : List ℕ) (e : Expression) (rest : List ℕ) → BeginsCommand bytes e rest → nesting e ≤ nesting_limit
command_nests bytes (leaf a) rest c = absurd (command_closes bytes (leaf a) rest c).1
command_nests bytes (list es) rest c =
    let ts = tokens_of_each es in
    let before : opening ∷ ts ≡ c.before = append_cancel_right (opening ∷ ts) c.before (closing ∷ []) c.tokens in
    let inside : open_after (ts ++ []) 1 ≡ Some 1 = ap (λ l. open_after l 1) (append-nil ts) ∙ ap (λ l. open_after l 0) before ∙ c.part.nested in
    omega (arith, (each_nests_within es [] 1 1 (omega arith) inside).0)
