use Rattle.std.proofs.Common.{◌≡◌, length, sym, ◌∙◌, arith}
use Rattle.std.proofs.lemmas.Bool.Decides.{Decides-eqb}
use Rattle.ct_values.proofs.ClassLemmas.{class_read, alike_of_one, stored_together}
use Rattle.ct_values.proofs.equality.decide.Goals as goal

pub returns : goal.returns
returns c =
    let g = c.args.graph.now in
    let are = c.in_ok-classes.ensures.classes in
    let classes = c.in_ok-classes.classes.items in
    let long : length classes ≡ length g = are.long in
    let a = class_read classes c.args.a.0 c.index.result.now (omega (arith, long, c.requires.a_within)) c.index.ensures in
    let b = class_read classes c.args.b.0 c.index-2.result.now (omega (arith, long, c.requires.b_within)) c.index-2.ensures in
    let test = Decides-eqb c.index.result.now c.index-2.result.now in
    record {
      value = (
        λ h. alike_of_one g classes are c.args.a c.args.b c.requires.a_within c.requires.b_within (a ∙ test.0 h ∙ sym b),
        λ always. test.1 (sym a ∙ (stored_together g classes are).together c.args.a.0 c.args.b.0 c.requires.a_within c.requires.b_within always ∙ b),
      );
    }
