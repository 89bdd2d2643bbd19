use Rattle.std.proofs.Common.{◌≡◌, ℕ, ◌<◌, ◌≤◌, List, [], ◌∷◌, Err, length, drop, slice_get, Some, refl, sym, ◌∙◌, ap, subst, arith}
use Rattle.ct_generics.specs.Add.{IsAdded}
use Rattle.ct_generics.specs.declared.room.Room.{Room}
use Rattle.ct_generics.specs.Denoted.{declared_of, sorts_of}
use Rattle.ct_generics.specs.Expression.{Expression}
use Rattle.ct_generics.specs.Nodes.{Stands}
use Rattle.ct_sorts.specs.declared.tables.Tables.{Tables}
use Rattle.ct_sorts.specs.Growing.{AreWithin, IsGrownBy}
use Rattle.ct_sorts.proofs.GrowLemmas.{grown_further}
use Rattle.ct_sorts.proofs.InstanceLemmas.{come_accepted, come_consistent, come_few, come_first, come_grown, come_listed, come_ready, come_tabled, come_with, come_within, entries_long, has_come, refused_by, table_grown, table_standing}
use Rattle.ct_sorts.proofs.MissingLemmas.{with_table}
use Rattle.ct_sorts.proofs.ResultLemmas.{on_ok, only_memory}
use Rattle.ct_sorts.proofs.instances.add_missing.Goals as goal

pub room_in-room-requires-clause-declared : goal.room_in-room-requires-clause-declared
room_in-room-requires-clause-declared c = c.requires.tabled.declared

pub room_in-room-requires-clause-within : goal.room_in-room-requires-clause-within
room_in-room-requires-clause-within c = (c.requires.consistent.0, c.requires.consistent.1, c.requires.consistent.2.within)

pub add_sorts-requires-clause-declared : goal.add_sorts-requires-clause-declared
add_sorts-requires-clause-declared c = (declared_of c.args.tables.now.generics, c.requires.tabled.declared)

pub add_sorts-requires-clause-sorts : goal.add_sorts-requires-clause-sorts
add_sorts-requires-clause-sorts c = (sorts_of c.args.tables.now.table, c.requires.sort.0 ∷ [], c.requires.tabled.stand, (c.requires.sort.1, tt))

pub add_sorts-requires-clause-counted : goal.add_sorts-requires-clause-counted
add_sorts-requires-clause-counted c = c.requires.tabled.counted

pub returns-in-Err-clause-refused : goal.returns-in-Err-clause-refused
returns-in-Err-clause-refused c =
    let t = c.args.tables.now in
    λ n e fs ds refused stands.
    let by = λ (added : List Expression). c.in-Err.ensures.refused n (declared_of t.generics) (sorts_of t.table) (e ∷ []) added (ap Err (refused_by c.in-Err.error c.sig_error.result n (c.sig_error.ensures.refused n) refused)) c.requires.tabled.declared c.requires.tabled.stand (stands, tt) in
    ((by []).0, subst (λ (room : Room). (added : List Expression) → IsAdded (declared_of t.generics).heads room (e ∷ []) (sorts_of t.table) added → ⊥) (c.room_in-room.ensures.room fs ds) (λ added. (by added).1))

pub returns-in-Err-clause-grown : goal.returns-in-Err-clause-grown
returns-in-Err-clause-grown c =
    let t = c.args.tables.now in
    table_grown c.facts.ensures.all t (record { declared = c.requires.tabled.declared; stand = c.requires.tabled.stand }) c.add_sorts.new.table c.in-Err.ensures.unchanged c.in-Err.ensures.stay

pub returns-in-Err-clause-standing : goal.returns-in-Err-clause-standing
returns-in-Err-clause-standing c =
    let t = c.args.tables.now in
    table_standing c.facts.ensures.all t (record { declared = c.requires.tabled.declared; stand = c.requires.tabled.stand }) c.add_sorts.new.table c.in-Err.ensures.unchanged c.in-Err.ensures.stay

pub push_sorts-requires-clause-ready : goal.push_sorts-requires-clause-ready
push_sorts-requires-clause-ready c =
    let t = c.args.tables.now in
    let sort = c.requires.sort in
    let kept = c.requires.consistent in
    let table = c.add_sorts.new.table in
    let room = c.room_in-room.result in
    let come = has_come t table room sort.0 (c.in-Ok.ensures.ok (declared_of t.generics) (sorts_of t.table) (sort.0 ∷ []) c.requires.tabled.declared c.requires.tabled.stand (sort.1, tt)) in
    come_ready c.facts.ensures.all t c.requires.tabled table room sort.0 come kept.0 kept.1 (c.room_in-room.ensures.room kept.0 kept.1) kept.2 sort.2

pub push_sorts-requires-clause-first : goal.push_sorts-requires-clause-first
push_sorts-requires-clause-first c = c.len-first.ensures.len ∙ entries_long c.args.tables.now c.requires.tabled

pub push_sorts-requires-clause-within : goal.push_sorts-requires-clause-within
push_sorts-requires-clause-within c =
    let t = c.args.tables.now in
    let sort = c.requires.sort in
    let table = c.add_sorts.new.table in
    let room = c.room_in-room.result in
    let come = has_come t table room sort.0 (c.in-Ok.ensures.ok (declared_of t.generics) (sorts_of t.table) (sort.0 ∷ []) c.requires.tabled.declared c.requires.tabled.stand (sort.1, tt)) in
    omega (arith, c.len-first.ensures.len, come_within c.facts.ensures.all t c.requires.tabled table room sort.0 come)

pub push_sorts-requires-clause-few : goal.push_sorts-requires-clause-few
push_sorts-requires-clause-few c =
    let t = c.args.tables.now in
    let sort = c.requires.sort in
    let kept = c.requires.consistent in
    let table = c.add_sorts.new.table in
    let room = c.room_in-room.result in
    let come = has_come t table room sort.0 (c.in-Ok.ensures.ok (declared_of t.generics) (sorts_of t.table) (sort.0 ∷ []) c.requires.tabled.declared c.requires.tabled.stand (sort.1, tt)) in
    subst (AreWithin (with_table t table)) (sym (ap (λ (n : ℕ). drop n (sorts_of table)) c.len-first.ensures.len ∙ come_first c.facts.ensures.all t c.requires.tabled table room sort.0 come))
    (come_few c.facts.ensures.all t c.requires.tabled table room sort.0 come kept.0 kept.1 (c.room_in-room.ensures.room kept.0 kept.1) kept.2 sort.2)

pub returns-in-Ok-clause-ok : goal.returns-in-Ok-clause-ok
returns-in-Ok-clause-ok c =
    let t = c.args.tables.now in
    let kept = c.requires.consistent in
    let table = c.add_sorts.new.table in
    let room = c.room_in-room.result in
    let new = c.push_sorts.new.tables in
    on_ok c.push_sorts.result (λ grown e fs ds stands.
    let come = has_come t table room e (c.in-Ok.ensures.ok (declared_of t.generics) (sorts_of t.table) (e ∷ []) c.requires.tabled.declared c.requires.tabled.stand (stands, tt)) in
    let same = subst (IsGrownBy (with_table t table) new) (ap (λ (n : ℕ). drop n (sorts_of table)) c.len-first.ensures.len ∙ come_first c.facts.ensures.all t c.requires.tabled table room e come) grown in
    come_with c.facts.ensures.all t c.requires.tabled table room e come new same fs ds (c.room_in-room.ensures.room fs ds)) c.push_sorts.ensures.ok

pub returns-in-Ok-clause-accepted : goal.returns-in-Ok-clause-accepted
returns-in-Ok-clause-accepted c =
    let t = c.args.tables.now in
    let table = c.add_sorts.new.table in
    let room = c.room_in-room.result in
    on_ok c.push_sorts.result (λ grown e fs ds stands.
    let come = has_come t table room e (c.in-Ok.ensures.ok (declared_of t.generics) (sorts_of t.table) (e ∷ []) c.requires.tabled.declared c.requires.tabled.stand (stands, tt)) in
    come_accepted c.facts.ensures.all t c.requires.tabled table room e come fs ds (c.room_in-room.ensures.room fs ds)) c.push_sorts.ensures.ok

pub returns-in-Ok-clause-refused : goal.returns-in-Ok-clause-refused
returns-in-Ok-clause-refused c = λ n e fs ds refused stands. absurd (only_memory c.push_sorts.result n c.push_sorts.ensures.err refused)

pub returns-in-Ok-clause-grown : goal.returns-in-Ok-clause-grown
returns-in-Ok-clause-grown c =
    let t = c.args.tables.now in
    let sort = c.requires.sort in
    let table = c.add_sorts.new.table in
    let room = c.room_in-room.result in
    let come = has_come t table room sort.0 (c.in-Ok.ensures.ok (declared_of t.generics) (sorts_of t.table) (sort.0 ∷ []) c.requires.tabled.declared c.requires.tabled.stand (sort.1, tt)) in
    grown_further t (with_table t table) c.push_sorts.new.tables (come_grown c.facts.ensures.all t c.requires.tabled table room sort.0 come) c.push_sorts.ensures.grown

pub returns-in-Ok-clause-standing : goal.returns-in-Ok-clause-standing
returns-in-Ok-clause-standing c = c.push_sorts.ensures.standing

pub returns-in-Ok-clause-tabled : goal.returns-in-Ok-clause-tabled
returns-in-Ok-clause-tabled c =
    let t = c.args.tables.now in
    let sort = c.requires.sort in
    let kept = c.requires.consistent in
    let table = c.add_sorts.new.table in
    let room = c.room_in-room.result in
    let new = c.push_sorts.new.tables in
    let come = has_come t table room sort.0 (c.in-Ok.ensures.ok (declared_of t.generics) (sorts_of t.table) (sort.0 ∷ []) c.requires.tabled.declared c.requires.tabled.stand (sort.1, tt)) in
    on_ok c.push_sorts.result (λ grown.
    let same = subst (IsGrownBy (with_table t table) new) (ap (λ (n : ℕ). drop n (sorts_of table)) c.len-first.ensures.len ∙ come_first c.facts.ensures.all t c.requires.tabled table room sort.0 come) grown in
    come_tabled c.facts.ensures.all t c.requires.tabled table room sort.0 come kept.0 kept.1 (c.room_in-room.ensures.room kept.0 kept.1) kept.2 sort.2 new same c.push_sorts.ensures.standing (c.push_sorts.ensures.counted c.in-Ok.ensures.counted)) c.push_sorts.ensures.ok

pub returns-in-Ok-clause-consistent : goal.returns-in-Ok-clause-consistent
returns-in-Ok-clause-consistent c =
    let t = c.args.tables.now in
    let sort = c.requires.sort in
    let table = c.add_sorts.new.table in
    let room = c.room_in-room.result in
    let new = c.push_sorts.new.tables in
    let come = has_come t table room sort.0 (c.in-Ok.ensures.ok (declared_of t.generics) (sorts_of t.table) (sort.0 ∷ []) c.requires.tabled.declared c.requires.tabled.stand (sort.1, tt)) in
    on_ok c.push_sorts.result (λ grown fs ds consistent.
    let same = subst (IsGrownBy (with_table t table) new) (ap (λ (n : ℕ). drop n (sorts_of table)) c.len-first.ensures.len ∙ come_first c.facts.ensures.all t c.requires.tabled table room sort.0 come) grown in
    come_consistent c.facts.ensures.all t c.requires.tabled table room sort.0 come fs ds (c.room_in-room.ensures.room fs ds) consistent sort.2 new same) c.push_sorts.ensures.ok

pub returns-in-Ok-clause-there : goal.returns-in-Ok-clause-there
returns-in-Ok-clause-there c =
    let t = c.args.tables.now in
    let table = c.add_sorts.new.table in
    let room = c.room_in-room.result in
    let new = c.push_sorts.new.tables in
    on_ok c.push_sorts.result (λ grown e stands.
    let come = has_come t table room e (c.in-Ok.ensures.ok (declared_of t.generics) (sorts_of t.table) (e ∷ []) c.requires.tabled.declared c.requires.tabled.stand (stands, tt)) in
    let same = subst (IsGrownBy (with_table t table) new) (ap (λ (n : ℕ). drop n (sorts_of table)) c.len-first.ensures.len ∙ come_first c.facts.ensures.all t c.requires.tabled table room e come) grown in
    come_listed c.facts.ensures.all t c.requires.tabled table room e come new same) c.push_sorts.ensures.ok

pub returns-in-Ok-clause-stay : goal.returns-in-Ok-clause-stay
returns-in-Ok-clause-stay c =
    on_ok c.push_sorts.result (λ grown n node at. grown.same.stay n node (c.in-Ok.ensures.stay n node at)) c.push_sorts.ensures.ok
