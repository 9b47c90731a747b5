use Rattle.std.proofs.Common.{ap, ◌∙◌, sym}
use Rattle.std.proofs.lemmas.List.Elements.{All-map}
use Rattle.std.specs.Arc.{arc_value}
use Rattle.occ_model.specs.Log.{last_folded}
use Rattle.occ_model.specs.World.{Settings, World}
use Rattle.occ_board.specs.Rule.{Posted}
use Rattle.occ_board.specs.Words.{blank, continued}
use Rattle.occ_store.specs.Frames.{PartView, HasRoomFor}
use Rattle.occ_store.proofs.Begun.{begun_itself, numbers_room}
use Rattle.occ_store.proofs.PartsMade.{frame_is}
use Rattle.occ_store.proofs.frames.Frame.resume.Goals as goal

pub show-requires-clause-begun : goal.show-requires-clause-begun
show-requires-clause-begun g c = begun_itself _ (record { schema = c.args.schema; sessions = c.args.sessions; keep = c.args.keep }) c.args.base.base c.args.counter (c.core.ensures.world ∙ c.in_ok-filed.ensures.resumed)

pub show-requires-clause-blank : goal.show-requires-clause-blank
show-requires-clause-blank g c = c.in-Ok.ensures.words ∙ ap (λ (w : World). blank w.settings.sessions) (sym (c.core.ensures.world ∙ c.in_ok-filed.ensures.resumed))

pub invariant_of-result : goal.invariant_of-result
invariant_of-result g c =
    let settings : Settings = record { schema = c.args.schema; sessions = c.args.sessions; keep = c.args.keep } in
    let before : Posted = c.in-Ok.seating.publisher in
    let shown = c.show.ensures ∙ ap (λ (w : World). record before { words = continued w.counter (last_folded w.base) w.settings.sessions }) c.core.ensures.world in
    let room = numbers_room c.in_ok-filed.filed.world settings c.args.base.base c.args.counter c.in_ok-filed.ensures.resumed c.law.ensures.fits in
    frame_is c.in_ok-filed.filed (arc_value c.in_ok-filed.file) before c.show.new.publisher c.in-Ok.seating.places.items c.in-Ok.seating.parts.items c.new.result.parts settings c.args.base.base c.args.counter
    c.in_ok-filed.ensures.resumed c.in_ok-filed.ensures.shared shown c.in-Ok.ensures.count (c.in-Ok.ensures.places room) (c.in-Ok.ensures.parts room) c.new.ensures

pub returns-clause-room : goal.returns-clause-room
returns-clause-room g c = All-map (HasRoomFor c.args.capacity) (λ (p : PartView). p.receiver.lane) _ c.in-Ok.ensures.room
