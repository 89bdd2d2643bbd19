use Rattle.std.proofs.Common.{true, false, codes, refl, sym}
use Rattle.std.specs.Str.{bytes_eq}
use Rattle.ct_sexpr.specs.View.{expressions_of}
use Rattle.ct_names.specs.Outcome.{and_then}
use Rattle.ct_names.specs.Elaboration.{parts_of, reserved, qualified_symbol, lone_symbol}
use Rattle.ct_names.proofs.NeedLemmas.{reaches_same}
use Rattle.ct_check.specs.Heads.{headed_by}
use Rattle.ct_check.proofs.HeadLemmas.{leads_along}
use Rattle.ct_check.proofs.HeadCases.{reserved_is}
use Rattle.ct_check.proofs.heads.reserved_head.Goals as goal

pub returns-then-is_same-clause-value : goal.returns-then-is_same-clause-value
returns-then-is_same-clause-value c = λ later grows.
    let scope = c.args.variables.now in
    let w = c.args.word.now in
    let es = expressions_of c.args.args.now in
    reserved_is later scope (parts_of later es) w true (bytes_eq w (codes "match")) (bytes_eq w (codes "!")) (bytes_eq w (codes "as")) (bytes_eq w (codes "forall")) (bytes_eq w (codes "exists")) (sym c.if-is_same.ensures.value) refl refl refl refl refl

pub returns-then-is_same-2-clause-value : goal.returns-then-is_same-2-clause-value
returns-then-is_same-2-clause-value c = λ later grows.
    let scope = c.args.variables.now in
    let w = c.args.word.now in
    let es = expressions_of c.args.args.now in
    reserved_is later scope (parts_of later es) w false true (bytes_eq w (codes "!")) (bytes_eq w (codes "as")) (bytes_eq w (codes "forall")) (bytes_eq w (codes "exists")) (sym c.if-is_same.ensures.value) (sym c.if-is_same-2.ensures.value) refl refl refl refl

pub returns-then-is_same-3-clause-value : goal.returns-then-is_same-3-clause-value
returns-then-is_same-3-clause-value c = λ later grows.
    let scope = c.args.variables.now in
    let w = c.args.word.now in
    let es = expressions_of c.args.args.now in
    reserved_is later scope (parts_of later es) w false false true (bytes_eq w (codes "as")) (bytes_eq w (codes "forall")) (bytes_eq w (codes "exists")) (sym c.if-is_same.ensures.value) (sym c.if-is_same-2.ensures.value) (sym c.if-is_same-3.ensures.value) refl refl refl

pub returns-then-is_same-4-clause-value : goal.returns-then-is_same-4-clause-value
returns-then-is_same-4-clause-value c =
    let scope = c.args.variables.now in
    let w = c.args.word.now in
    let es = expressions_of c.args.args.now in
    leads_along c.args.needs c.whole_head.new.sig (λ m. reserved m scope w (parts_of m es)) (λ m. and_then (qualified_symbol m scope (parts_of m es)) (lone_symbol m)) (λ m h. headed_by m scope h (parts_of m es)) c.whole_head.result
    (λ m grows. reserved_is m scope (parts_of m es) w false false false true (bytes_eq w (codes "forall")) (bytes_eq w (codes "exists")) (sym c.if-is_same.ensures.value) (sym c.if-is_same-2.ensures.value) (sym c.if-is_same-3.ensures.value) (sym c.if-is_same-4.ensures.value) refl refl)
    c.whole_head.ensures.value

pub returns-then-is_same-4-clause-reaches : goal.returns-then-is_same-4-clause-reaches
returns-then-is_same-4-clause-reaches c =
    let scope = c.args.variables.now in
    let w = c.args.word.now in
    let es = expressions_of c.args.args.now in
    reaches_same (λ m. and_then (qualified_symbol m scope (parts_of m es)) (lone_symbol m)) (λ m. reserved m scope w (parts_of m es)) c.args.sig.now c.whole_head.new.sig
    (λ m grows. reserved_is m scope (parts_of m es) w false false false true (bytes_eq w (codes "forall")) (bytes_eq w (codes "exists")) (sym c.if-is_same.ensures.value) (sym c.if-is_same-2.ensures.value) (sym c.if-is_same-3.ensures.value) (sym c.if-is_same-4.ensures.value) refl refl)
    c.whole_head.ensures.reaches

pub returns-then-is_same-5-clause-value : goal.returns-then-is_same-5-clause-value
returns-then-is_same-5-clause-value c = λ later grows.
    let scope = c.args.variables.now in
    let w = c.args.word.now in
    let es = expressions_of c.args.args.now in
    reserved_is later scope (parts_of later es) w false false false false true (bytes_eq w (codes "exists")) (sym c.if-is_same.ensures.value) (sym c.if-is_same-2.ensures.value) (sym c.if-is_same-3.ensures.value) (sym c.if-is_same-4.ensures.value) (sym c.if-is_same-5.ensures.value) refl

pub returns-then-is_same-6-clause-value : goal.returns-then-is_same-6-clause-value
returns-then-is_same-6-clause-value c = λ later grows.
    let scope = c.args.variables.now in
    let w = c.args.word.now in
    let es = expressions_of c.args.args.now in
    reserved_is later scope (parts_of later es) w false false false false false true (sym c.if-is_same.ensures.value) (sym c.if-is_same-2.ensures.value) (sym c.if-is_same-3.ensures.value) (sym c.if-is_same-4.ensures.value) (sym c.if-is_same-5.ensures.value) (sym c.if-is_same-6.ensures.value)

pub returns-clause-value : goal.returns-clause-value
returns-clause-value c =
    let d = c.args.sig.now in
    let scope = c.args.variables.now in
    let w = c.args.word.now in
    let es = expressions_of c.args.args.now in
    reserved_is d scope (parts_of d es) w false false false false false false (sym c.if-is_same.ensures.value) (sym c.if-is_same-2.ensures.value) (sym c.if-is_same-3.ensures.value) (sym c.if-is_same-4.ensures.value) (sym c.if-is_same-5.ensures.value) (sym c.if-is_same-6.ensures.value)
