use Rattle.std.proofs.Common.{ap, sym, length, ◌∙◌}
use Rattle.occ_reading.proofs.Common.{BaseContent, Log, books, failed, frame_of, length-map, next_fails, next_taken, read_fault, table_of}
use Rattle.occ_reading.proofs.Sections.{log_front, base_front, front_fails}
use Rattle.occ_reading.proofs.whole_books.take_front.Goals as goal

pub returns-in_ok-base-in-Log-clause-taken : goal.returns-in_ok-base-in-Log-clause-taken
returns-in_ok-base-in-Log-clause-taken g c =
    let made = rw c.in_ok-base-in-Log.ensures.given at c.new.ensures.empty in
    log_front c.args.version c.args.schema.now c.args.sessions c.in-Log.rows c.args.began c.in_ok-base-in-Log.base.base c.in-Log.is (ap (λ (b : BaseContent). b.base) made)

pub returns-in_ok-rows-in-Base-clause-taken : goal.returns-in_ok-rows-in-Base-clause-taken
returns-in_ok-rows-in-Base-clause-taken g c =
    let frame = frame_of c.args.version c.args.schema.now c.args.sessions in
    base_front c.args.version c.args.schema.now c.args.sessions c.in_ok-rows-in-Base.rows c.args.began c.in-Base.head c.in_ok-base-in-Base.base.base c.in-Base.is c.requires c.in_ok-base-in-Base.ensures.taken
    (next_taken books (Log frame) c.in_ok-rows-in-Base.rows c.in_ok-rows-in-Base.ensures.gives).0

pub returns-in_err-rows-in-Base-clause-taken : goal.returns-in_err-rows-in-Base-clause-taken
returns-in_err-rows-in-Base-clause-taken g c =
    let frame = frame_of c.args.version c.args.schema.now c.args.sessions in
    let fault = read_fault c.in_err-rows-in-Base.field-0.0 in
    failed books fault c.from_residual-in_err-rows-in-Base.result _ _ _ _ _ _ c.from_residual-in_err-rows-in-Base.ensures.1
    (front_fails fault _ frame c.args.began c.in-Base.head c.in-Base.is c.in_ok-base-in-Base.ensures.taken.0 (next_fails books (Log frame) fault _ _ _ (λ may. may) c.in_err-rows-in-Base.ensures.gives))

pub returns-in_ok-base-in-Log-clause-sizes : goal.returns-in_ok-base-in-Log-clause-sizes
returns-in_ok-base-in-Log-clause-sizes g c =
    let made = rw c.in_ok-base-in-Log.ensures.given at c.new.ensures.empty in
    (ap (λ (b : BaseContent). b.tables) made ∙ sym (length-map c.tables.result.now table_of) ∙ ap length c.tables.ensures.value, ap (λ (b : BaseContent). b.sessions) made)
