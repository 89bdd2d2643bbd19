-- The generated script is short.
use Rattle.std.proofs.Common.{◌≤◌, ◌+◌, ◌*◌, ◌%◌, ◌==◌, ℕ, Bool, cond, true, false, zero, suc, arith, List, ◌++◌, length, codes}
use Rattle.std.proofs.lemmas.List.{length-append}
use Rattle.std.proofs.lemmas.Nat.{mod_below}
use Rattle.ct_input.specs.Slot.{most_bytes}
use Rattle.ct_gen.specs.Script.{block, block_begin, block_end, blocks, cells, declarations, equations, first_equation, first_stream, repeated, script, second_element, second_equation, second_stream}

joined : (xs ys : List ℕ) (a b : ℕ) → length xs ≤ a → length ys ≤ b → length (xs ++ ys) ≤ a + b
joined xs ys a b few less = omega (arith, length-append xs ys, few, less)

repeated_short : (k : ℕ) (text : List ℕ) → length text ≤ 9 → length (repeated k text) ≤ 9 * k
repeated_short zero text few = omega arith
repeated_short (suc k) text few = omega (arith, length-append (repeated k text) text, repeated_short k text few, few)

cells_short : (k : ℕ) (rest : List ℕ) → k ≤ 13 → length rest ≤ 1 → length (cells k rest) ≤ 235
cells_short k rest few one =
    let opened : length (repeated k (codes "(scons a ")) ≤ 9 * k = repeated_short k (codes "(scons a ") (omega arith) in
    let closed : length (repeated k (codes ")")) ≤ 9 * k = repeated_short k (codes ")") (omega arith) in
    omega (arith, length-append (repeated k (codes "(scons a ")) (rest ++ repeated k (codes ")")), length-append rest (repeated k (codes ")")), opened, closed, few, one)

element_short : (i : ℕ) → length (second_element i) ≤ 1
element_short i = go (i % 3 == 0)
  where
    go : (b : Bool) → length (cond b (codes "b") (codes "a")) ≤ 1
    go true = omega arith
    go false = omega arith

first_short : (i : ℕ) → length (first_equation i) ≤ 300
unfolding first_equation
first_short i =
    let stream : length (first_stream i) ≤ 235 = cells_short (i % 13 + 1) (codes "x") (omega (arith, mod_below i 13 (omega arith))) (omega arith) in
    let rest : length (first_stream i ++ codes "))\n") ≤ 235 + 3 = joined (first_stream i) (codes "))\n") 235 3 stream (omega arith) in
    let whole = joined (codes "(assert (= x ") (first_stream i ++ codes "))\n") 13 (235 + 3) (omega arith) rest in
    omega (arith, whole)

second_short : (i : ℕ) → length (second_equation i) ≤ 300
unfolding second_equation
second_short i =
    let y = cells (i % 7) (codes "y") in
    let few : length y ≤ 235 = cells_short (i % 7) (codes "y") (omega (arith, mod_below i 7 (omega arith))) (omega arith) in
    let a = joined y (codes ")") 235 1 few (omega arith) in
    let b = joined (codes " ") (y ++ codes ")") 1 (235 + 1) (omega arith) a in
    let c = joined (second_element i) (codes " " ++ (y ++ codes ")")) 1 (1 + (235 + 1)) (element_short i) b in
    let stream : length (second_stream i) ≤ 7 + (1 + (1 + (235 + 1))) =
    joined (codes "(scons ") (second_element i ++ (codes " " ++ (y ++ codes ")"))) 7 (1 + (1 + (235 + 1))) (omega arith) c in
    let rest = joined (second_stream i) (codes "))\n") (7 + (1 + (1 + (235 + 1)))) 3 stream (omega arith) in
    let whole = joined (codes "(assert (= y ") (second_stream i ++ codes "))\n") 13 (7 + (1 + (1 + (235 + 1))) + 3) (omega arith) rest in
    omega (arith, whole)

block_short : (i : ℕ) → length (block i) ≤ 1000
unfolding block block_begin block_end equations
block_short i =
    let both = joined (first_equation i) (second_equation i) 300 300 (first_short i) (second_short i) in
    let rest = joined (equations i) block_end (300 + 300) 100 both (omega arith) in
    let whole = joined block_begin (equations i ++ block_end) 100 (300 + 300 + 100) (omega arith) rest in
    omega (arith, whole)

blocks_short : (n : ℕ) → length (blocks n) ≤ 1000 * n
blocks_short zero = omega arith
blocks_short (suc n) = omega (arith, length-append (blocks n) (block (suc n)), blocks_short n, block_short (suc n))

declarations_short : length declarations ≤ 200
unfolding declarations
declarations_short = omega arith

-- the script of at most 2,000 blocks has fewer bytes than may be read
pub script_short : (n : ℕ) → n ≤ 2000 → length (script n) ≤ most_bytes
script_short n few =
    let whole = joined declarations (blocks n) 200 (1000 * n) declarations_short (blocks_short n) in
    omega (arith, whole, few)
