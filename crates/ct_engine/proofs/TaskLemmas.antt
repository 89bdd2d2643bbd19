-- Searches of one task.
use Rattle.std.proofs.Common.{◌≡◌, Bool, true, List, refl, subst, sym, ◌∙◌}
use Rattle.ct_sorts.specs.Grown.{Begins}
use Rattle.ct_engine.specs.declared.course.Course.{Course}
use Rattle.ct_engine.specs.Progress.{IsOfOneTask, IsOfOneClosure}
use Rattle.ct_engine.proofs.ListLemmas.{Begins-itself, Begins-then}

-- a search is of its own task
pub IsOfOneTask-itself : (course : Course) → IsOfOneTask course course
IsOfOneTask-itself course = record {
  declarations = refl;
  terms = refl;
  asserts = refl;
  over = refl;
  budget = refl;
  variables = refl;
  recorded = refl;
  initial = refl;
  kept = refl;
  lines = Begins-itself course.derivation.rec.lines;
  moves = λ e. Begins-itself course.moves.items;
}

-- the same, by a name that functions can cite
pub own_task : (course : Course) → IsOfOneTask course course
own_task = IsOfOneTask-itself

-- what is of the task of what is of a task is of that
pub IsOfOneTask-then : (first second third : Course) → IsOfOneTask first second → IsOfOneTask second third → IsOfOneTask first third
IsOfOneTask-then first second third one other = record {
  declarations = other.declarations ∙ one.declarations;
  terms = other.terms ∙ one.terms;
  asserts = other.asserts ∙ one.asserts;
  over = other.over ∙ one.over;
  budget = other.budget ∙ one.budget;
  variables = other.variables ∙ one.variables;
  recorded = other.recorded ∙ one.recorded;
  initial = other.initial ∙ one.initial;
  kept = other.kept ∙ one.kept;
  lines = Begins-then first.derivation.rec.lines second.derivation.rec.lines third.derivation.rec.lines one.lines other.lines;
  moves = λ e. Begins-then first.moves.items second.moves.items third.moves.items (one.moves e) (other.moves (one.recorded ∙ e));
}

-- a search is of its own check
pub IsOfOneClosure-itself : (course : Course) → IsOfOneClosure course course
IsOfOneClosure-itself course = record {
  declarations = refl;
  terms = refl;
  asserts = refl;
  variables = refl;
  initial = refl;
  kept = refl;
  lines = Begins-itself course.derivation.rec.lines;
}

-- searches of one task are of one check
pub IsOfOneClosure-task : (old new : Course) → IsOfOneTask old new → IsOfOneClosure old new
IsOfOneClosure-task old new same = record {
  declarations = same.declarations;
  terms = same.terms;
  asserts = same.asserts;
  variables = same.variables;
  initial = same.initial;
  kept = same.kept;
  lines = same.lines;
}

-- what is of one check with what is of one check with another is so with that
pub IsOfOneClosure-then : (first second third : Course) → IsOfOneClosure first second → IsOfOneClosure second third → IsOfOneClosure first third
IsOfOneClosure-then first second third one other = record {
  declarations = other.declarations ∙ one.declarations;
  terms = other.terms ∙ one.terms;
  asserts = other.asserts ∙ one.asserts;
  variables = other.variables ∙ one.variables;
  initial = other.initial ∙ one.initial;
  kept = other.kept ∙ one.kept;
  lines = Begins-then first.derivation.rec.lines second.derivation.rec.lines third.derivation.rec.lines one.lines other.lines;
}
