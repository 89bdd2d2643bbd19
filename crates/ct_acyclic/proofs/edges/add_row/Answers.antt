use Rattle.std.proofs.Common.{[], List, length, sym, ap, subst, ◌∙◌, true≢false, append-nil, arith}
use Rattle.std.specs.List.{AllZip}
use Rattle.std.proofs.lemmas.Option.{slice_get_within}
use Rattle.ct_terms.specs.declared.ids.TermId.{TermId}
use Rattle.ct_terms.specs.declared.term.Core.TheVariants.{Con}
use Rattle.ct_terms.specs.Terms.{Has}
use Rattle.ct_acyclic.specs.Edges.{IsRepNumber}
use Rattle.ct_acyclic.proofs.ClassLemmas.{IsRow-other, IsRow-bare, IsRow-of}
use Rattle.ct_acyclic.proofs.edges.add_row.Goals as goal

pub returns-then-not-is_data_class : goal.returns-then-not-is_data_class
returns-then-not-is_data_class c = record {
  row = record {
    row = [];
    added = sym (append-nil c.args.kids.now.items);
    is = IsRow-other c.args.classes.now c.table-table.ensures.one_sort c.args.t c.is_data_class.ensures.own (λ is. true≢false (sym (c.is_data_class.ensures.value.1 is) ∙ c.if-not-is_data_class.true));
  };
}

pub returns-in_default : goal.returns-in_default
returns-in_default c = record {
  row = record {
    row = [];
    added = sym (append-nil c.args.kids.now.items);
    is = IsRow-bare c.args.classes.now c.table-table.ensures.one_sort c.args.t c.is_data_class.ensures.own c.in_default.ensures.none;
  };
}

pub core-requires : goal.core-requires
core-requires c =
    let equal = c.in-Some.ensures.found.1 in
    let inside = slice_get_within c.args.classes.now.terms c.in-Some.con.0 (Con c.in-Some.ensures.found.0.0 c.in-Some.ensures.found.0.1, c.in-Some.ensures.found.0.2.0) c.in-Some.ensures.found.0.2.1 in
    record { within = omega (arith, inside, ap length c.table-table.ensures.value) }

pub add_reps-requires : goal.add_reps-requires
add_reps-requires c =
    let inside = rw (c.in-Con.is, c.table-table.ensures.value) at c.core.ensures.inside in
    record { inside = rw c.as_slice.ensures.value inside }

pub returns : goal.returns
returns c =
    let state = c.args.classes.now in
    let con = c.in-Some.con in
    let args = c.in-Con.args in
    let stands : Has state.terms (Con c.in-Con.field-0 args) con.0 = rw (c.in-Con.is, c.table-table.ensures.value) at c.core.ensures.value in
    let new = c.in_ok-add_reps.ensures.added in
    let each : AllZip (IsRepNumber state.reps) args new.row = subst (λ (list : List TermId). AllZip (IsRepNumber state.reps) list new.row) c.as_slice.ensures.value new.each in
    let data_class = c.is_data_class.ensures.value.0 c.if-not-is_data_class.false in
    record {
      row = record {
        row = new.row;
        added = new.added;
        is = IsRow-of state c.table-table.ensures.one_sort c.requires.quiet c.table-table.ensures.sorted c.args.t con c.in-Con.field-0 args new.row data_class (c.in-Some.ensures.value c.args.t data_class.own) c.in-Some.ensures.found.1 stands each;
      };
    }
