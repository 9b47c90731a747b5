use Rattle.std.proofs.Common.{◌≡◌, false, true, sym, ◌∙◌}
use Rattle.occ_audit.proofs.Common.{MatchOption-at_some, MatchOption-at_none, Explained, serial, log_of}
use Rattle.occ_audit.proofs.audits.is_replayed.Goals as goal

pub returns-in_default : goal.returns-in_default
returns-in_default g c =
    let log = log_of c.args.book.now.log.now in
    let state = c.args.book.now.base.now.base.state in
    let replayed = c.in_ok-replayed.ensures in
    (λ (e : false ≡ true). cc, λ a. absurd (MatchOption-at_none (Explained state log → ⊥) (λ s. Explained state log × (s ≡ serial state log)) c.in_default.is replayed a.0))

pub returns : goal.returns
returns g c =
    let log = log_of c.args.book.now.log.now in
    let state = c.args.book.now.base.now.base.state in
    let replayed = c.in_ok-replayed.ensures in
    let played = MatchOption-at_some (Explained state log → ⊥) (λ s. Explained state log × (s ≡ serial state log)) c.in-Some.replayed c.in-Some.is replayed in
    let rests = c.in_ok-rests.ensures c.args.book.now.table.now.state in (
      λ e. (played.0, sym rests ∙ c.in_ok-settled.ensures.0 e ∙ played.1),
      λ a. c.in_ok-settled.ensures.1 (rests ∙ a.1 ∙ sym played.1),
    )
