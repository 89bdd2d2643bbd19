use Rattle.std.proofs.Common.{◌≡◌, take, Ok}
use Rattle.ct_sexpr.specs.View.{expressions_of}
use Rattle.ct_names.specs.declared.needs.Needs.TheVariants.{Find}
use Rattle.ct_names.specs.Elaboration.{parts_of, listable_sorts}
use Rattle.ct_names.specs.Needs.{Reaches}
use Rattle.ct_check.specs.Quantifiers.{AreKnown}
use Rattle.ct_check.proofs.quantifiers.listable_sorts.Given as goal

abbrev pub invariant-loop-binding : goal.invariant-loop-binding
invariant-loop-binding l =
    record {
      value : listable_sorts l.sig (parts_of l.sig (expressions_of (take l.binding-index l.bindings))) ≡ Ok l.sorts.items;
      reaches : Reaches (λ d. listable_sorts d (parts_of d (expressions_of (take l.binding-index l.bindings)))) l.fn.sig l.sig;
      known : AreKnown l.sig l.known;
      kept : l.needs ≡ Find → l.sig ≡ l.fn.sig;
    }
