use Rattle.std.proofs.Common.{◌≡◌, [], Some, rules}
use Rattle.std.specs.Io.KnownBytes.{prepend_known}
use Rattle.occ_text.specs.Languages.{position_of}
use Rattle.occ_c.proofs.Holdings.{header_whole, no_header, runs_on}
use Rattle.occ_c.proofs.texts.header_of.Goals as goal

pub returns-clause-read : goal.returns-clause-read
returns-clause-read c =
    let none : c.in_ok-input.input.unread ≡ [] = search rules in
    header_whole c.args.text.now c.in_ok-input.input.unread c.in_ok-header.header.limits c.in_ok-header.header.schema (prepend_known c.read_header.new.input.unread (Some c.read_header.new.reader.now)) none
    c.in_ok-header.ensures.gives.0.taken c.in_ok-header.ensures.gives.1 c.in_ok-take_end.ensures

pub returns-in_err-header-clause-unread : goal.returns-in_err-header-clause-unread
returns-in_err-header-clause-unread c =
    no_header c.args.text.now c.in_ok-input.input c.in_err-header.field-0.0 c.from_residual-in_err-header.result (position_of c.read_header.new.input (Some c.read_header.new.reader.now)) c.in_ok-input.ensures c.from_residual-in_err-header.ensures.1 c.in_err-header.ensures.gives

pub returns-in_err-take_end-clause-unread : goal.returns-in_err-take_end-clause-unread
returns-in_err-take_end-clause-unread c =
    runs_on c.args.text.now c.in_ok-input.input c.in_ok-header.header.limits c.in_ok-header.header.schema c.in_err-take_end.field-0.0 c.from_residual-in_err-take_end.result
    (prepend_known c.read_header.new.input.unread (Some c.read_header.new.reader.now)) c.read_header.new.input.number c.in_ok-input.ensures c.from_residual-in_err-take_end.ensures.1
    c.in_ok-header.ensures.gives.0.taken c.in_ok-header.ensures.gives.0.number c.in_ok-header.ensures.gives.1 c.in_err-take_end.ensures
