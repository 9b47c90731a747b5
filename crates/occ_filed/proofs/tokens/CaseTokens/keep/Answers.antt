use Rattle.std.proofs.Common.{◌≡◌, length, ap, ◌∙◌, arith}
use Rattle.occ_filed.proofs.KeptTokens.{kept_at, kept_past}
use Rattle.occ_filed.proofs.tokens.CaseTokens.keep.Goals as goal

pub returns-then-session-len : goal.returns-then-session-len
returns-then-session-len g c =
    let counted = c.self.inside.tokens.ok.0 in
    let seen : length c.self.inside.tokens.items ≡ length c.args.self.now = ap length c.self.view_is in
    let count = c.len.ensures in
    let past = c.if-session-len.true in
    kept_past c.args.self.now c.args.session c.args.token (omega (arith, counted, seen, count, past))

pub returns : goal.returns
returns g c = c.set.ensures ∙ kept_at c.args.self.now c.args.session c.args.token (omega (arith, c.if-session-eq0.false))
