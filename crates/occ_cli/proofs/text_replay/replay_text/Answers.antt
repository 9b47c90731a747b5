use Rattle.std.proofs.Common.{◌∙◌, ap, sym}
use Rattle.occ_cli.proofs.Common.{Source, Outgoing}
use Rattle.occ_cli.proofs.WholeReplay.{emptied_at, ended_unread, ended_unflushed, ended_flushed, ended_amid_flush}
use Rattle.occ_cli.proofs.text_replay.replay_text.Goals as goal

pub returns-then-is_cut_short : goal.returns-then-is_cut_short
returns-then-is_cut_short g c =
    ended_unflushed c.replay_lines-outcome.result c.args.quiet _ _ _ _ _ _ _ _ (sym c.is_cut_short.ensures ∙ c.if-is_cut_short.true) (ap (λ (s : Source). s.unread) c.in_ok-input.ensures) (ap (λ (o : Outgoing). o.held) c.new-output.ensures) c.replay_lines-outcome.ensures.gives

pub returns-in_err-flush : goal.returns-in_err-flush
returns-in_err-flush g c =
    ended_amid_flush c.from_residual-in_err-flush.result c.replay_lines-outcome.result c.args.quiet _ _ _ _ _ _ _ _ _ _ c.from_residual-in_err-flush.ensures.1 (ap (λ (s : Source). s.unread) c.in_ok-input.ensures) (ap (λ (o : Outgoing). o.held) c.new-output.ensures)
    c.in_err-flush.ensures.gives c.replay_lines-outcome.ensures.gives

pub returns : goal.returns
returns g c =
    ended_flushed c.replay_lines-outcome.result c.args.quiet _ _ _ _ _ _ _ _ _ (ap (λ (s : Source). s.unread) c.in_ok-input.ensures) (ap (λ (o : Outgoing). o.held) c.new-output.ensures) c.in_ok-flush.ensures.gives.0
    (emptied_at c.replay_lines-outcome.result c.replay_lines-outcome.new.input c.replay_lines-outcome.ensures.unread) c.replay_lines-outcome.ensures.gives

pub returns-in_err-input : goal.returns-in_err-input
returns-in_err-input g c = ended_unread c.from_residual.result c.args.quiet _ _ _ c.from_residual.ensures.1
