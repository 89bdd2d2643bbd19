-- The generated script: pairs of streams that end in themselves, whose first elements may differ.
use Rattle.std.specs.Prelude.{ℕ, suc, zero, ◌+◌, ◌%◌, ◌==◌, if◌then◌else◌, List, [], ◌++◌, codes}

-- the text so many times in a row
abbrev pub repeated : ℕ → List ℕ → List ℕ
repeated zero text = []
repeated (suc n) text = repeated n text ++ text

-- a stream of so many cells of `a`, and then this stream
abbrev pub cells : ℕ → List ℕ → List ℕ
cells count rest = repeated count (codes "(scons a ") ++ (rest ++ repeated count (codes ")"))

-- a cell of this element before a stream
abbrev pub cell : List ℕ → List ℕ → List ℕ
cell element rest = codes "(scons " ++ (element ++ (codes " " ++ (rest ++ codes ")")))

-- the first element of the second stream of a block
abbrev pub second_element : ℕ → List ℕ
second_element i = if i % 3 == 0 then codes "b" else codes "a"

-- the stream that `x` equals: 1 to 13 cells of `a` and then `x`
abbrev pub first_stream : ℕ → List ℕ
first_stream i = cells (i % 13 + 1) (codes "x")

-- the stream that `y` equals: 1 to 7 cells, all of `a` but perhaps the first, and then `y`
abbrev pub second_stream : ℕ → List ℕ
second_stream i = cell (second_element i) (cells (i % 7) (codes "y"))

-- the assertions that `x` and `y` equal their streams, a line each
unfoldable pub first_equation : ℕ → List ℕ
first_equation i = codes "(assert (= x " ++ (first_stream i ++ codes "))\n")

unfoldable pub second_equation : ℕ → List ℕ
second_equation i = codes "(assert (= y " ++ (second_stream i ++ codes "))\n")

-- the lines of a block before its equations, and after them
unfoldable pub block_begin : List ℕ
block_begin = codes "(push 1)\n(declare-const x Stream)\n(declare-const y Stream)\n"

unfoldable pub block_end : List ℕ
block_end = codes "(assert (not (= x y)))\n(check-sat)\n(pop 1)\n"

-- the lines of both equations
unfoldable pub equations : ℕ → List ℕ
equations i = first_equation i ++ second_equation i

-- the eight lines of a block
unfoldable pub block : ℕ → List ℕ
block i = block_begin ++ (equations i ++ block_end)

-- the blocks with the numbers from 1 on, so many
abbrev pub blocks : ℕ → List ℕ
blocks zero = []
blocks (suc n) = blocks n ++ block (suc n)

-- the two lines that declare `E` and the streams over it
unfoldable pub declarations : List ℕ
declarations = codes "(declare-datatypes ((E 0)) (((a) (b))))\n" ++ codes "(declare-codatatypes ((Stream 0)) (((scons (shead E) (stail Stream)))))\n"

-- the declarations, and then a block for each number from 1 on
abbrev pub script : ℕ → List ℕ
script count = declarations ++ blocks count
