-- What stands in a value at the end of a path of places of fields.
use Rattle.std.specs.Prelude.{◌≡◌, ℕ, List, [], ◌∷◌, Some, slice_get}
use Rattle.ct_values.specs.declared.node.Head.{Head}
use Rattle.ct_values.specs.Agreement.{Point, head, children}

-- the value has this head at the end of the path
abbrev pub HasHeadAt : List ℕ → Head → Point → Type 0
HasHeadAt [] h p = head p ≡ Some h
HasHeadAt (place ∷ path) h p = (q : Point) × (slice_get (children p) place ≡ Some q) × HasHeadAt path h q
