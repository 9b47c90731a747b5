use Rattle.std.proofs.Common.{◌≡◌, [], Option, ap, refl, subst, sym}
use Rattle.std.specs.Prelude.{is_some}
use Rattle.occ_types.specs.PlainData.{table_of, tables_of}
use Rattle.occ_types.specs.declared.tables.TableDef.{TableDef}
use Rattle.occ_text.specs.declared.faults.ReadFault.TheVariants.{Memory}
use Rattle.occ_text.specs.HeaderTaking.{TablesSoFar}
use Rattle.occ_text.proofs.Causes.{may_take}
use Rattle.occ_text.proofs.TableLines.{no_tables_yet}
use Rattle.occ_text.proofs.TablesTaken.{no_tables_read, one_read, all_read, none_read}
use Rattle.occ_text.proofs.Taking.{memory_takes}
use Rattle.occ_text.proofs.headers.take_tables.Goals as goal

pub loop-tables-init : goal.loop-tables-init
loop-tables-init g c =
    let none : tables_of c.new-tables.result.items ≡ [] = ap tables_of c.new-tables.ensures.items in
    record { so_far = subst (TablesSoFar c.args.version) (sym none) (no_tables_yet c.args.version); read = no_tables_read c.args.version (tables_of c.new-tables.result.items) none }

pub loop-tables-preserved : goal.loop-tables-preserved
loop-tables-preserved g c =
    let next = rw c.in-Some.is at c.in_ok-table.ensures.gives in
    let read = one_read c.args.version (table_of {Z = g.row.A.Denot}) c.loop-tables.tables.items c.as_slice.result.now c.push.new.self.items c.in-Some.table c.as_slice.ensures.value c.in_ok-push-in-Some.ensures.items c.loop-tables.invariant.read next in
    record { so_far = read.so_far; read = read }

pub returns-in-None-clause-gives : goal.returns-in-None-clause-gives
returns-in-None-clause-gives g c =
    let next = rw c.in-None.is at c.in_ok-table.ensures.gives in
    all_read c.args.version (tables_of c.loop-tables.tables.items) (tables_of c.as_slice.result.now) (ap tables_of c.as_slice.ensures.value) c.loop-tables.invariant.read next

pub returns-in_err-table-clause-gives : goal.returns-in_err-table-clause-gives
returns-in_err-table-clause-gives g c =
    none_read c.args.version (λ tables. tables_of tables.items) c.in_err-table.field-0.0 c.from_residual.result (tables_of c.loop-tables.tables.items) _ _ _ c.from_residual.ensures.1 c.loop-tables.invariant.read c.in_err-table.ensures.gives

pub returns-in_err-push-in-Some-clause-gives : goal.returns-in_err-push-in-Some-clause-gives
returns-in_err-push-in-Some-clause-gives g c =
    none_read c.args.version (λ tables. tables_of tables.items) Memory c.from_residual-in_err-push-in-Some.result (tables_of c.loop-tables.tables.items) _ _ _ c.from_residual-in_err-push-in-Some.ensures.1 c.loop-tables.invariant.read tt

pub returns-in_err-table-clause-memory : goal.returns-in_err-table-clause-memory
returns-in_err-table-clause-memory g c =
    memory_takes {X = Option (TableDef g.row.A.Denot)} is_some _ c.in_err-table.field-0.0 c.from_residual.result c.from_residual.ensures.1 c.in_err-table.ensures.heads

pub returns-in_err-push-in-Some-clause-memory : goal.returns-in_err-push-in-Some-clause-memory
returns-in_err-push-in-Some-clause-memory g c =
    let heads = rw c.in-Some.is at c.in_ok-table.ensures.heads in
    may_take Memory c.from_residual-in_err-push-in-Some.result (heads refl)
