use Rattle.std.proofs.Common.{◌≡◌, ◌∷◌, ◌++◌, take}
use Rattle.std.specs.List.{flat_map}
use Rattle.ct_sorts.specs.Lookup.{names_of}
use Rattle.ct_sorts.specs.TextParts.{texts_of}
use Rattle.ct_sorts.proofs.text.push_args.Given as goal

abbrev pub invariant-loop-arg : goal.invariant-loop-arg
invariant-loop-arg l = l.text.items ≡ l.fn.text.items ++ flat_map (λ arg. 32 ∷ arg) (texts_of (names_of l.sorts) (take l.arg-index l.args))
