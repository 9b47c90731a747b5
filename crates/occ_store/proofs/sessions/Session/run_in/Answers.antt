use Rattle.std.proofs.Common.{ℕ, Option, ap, sym, subst, ◌∙◌}
use Rattle.occ_sets.specs.Sets.{Copied}
use Rattle.occ_store.specs.Sessions.{SessionView}
use Rattle.occ_store.specs.Transactions.{TransactionView}
use Rattle.occ_store.proofs.Submittable.{lent_one, lent_session}
use Rattle.occ_store.proofs.sessions.Session.run_in.Goals as goal

-- the transaction that came back is of the same session, since it is of the same party
pub invariant_of-self : goal.invariant_of-self
invariant_of-self g c =
    lent_one g.N.Name.named c.self.inside.seat.board c.self.inside.seat.seen c.self.inside.sender c.self.inside.transaction c.replace-none.new.self c.run-ran.new.work c.replace-back.new.self c.args.lent c.none.result
    c.replace-none.ensures.new c.run-ran.ensures.own c.session-session.ensures.reader c.replace-back.ensures.new c.none.ensures c.self.invariant

pub returns-clause-made : goal.returns-clause-made
returns-clause-made g c =
    let before = c.replace-none.ensures.new
    ∙ ap (λ (v : SessionView). record { session = v.session; draft = c.args.lent; front = v.front }) c.self.view_is in (
      c.run-ran.new.work,
      c.replace-back.ensures.was,
      ap (λ (t : TransactionView). t.front) c.replace-back.ensures.new,
      subst (λ (b : TransactionView). g.B.Body.makes c.args.body.now b c.run-ran.result c.run-ran.new.work) before c.run-ran.ensures.made,
    )

pub returns-clause-same : goal.returns-clause-same
returns-clause-same g c =
    let came = c.replace-back.new.self in
    let session = ap (λ (t : TransactionView). t.session) c.replace-back.ensures.new
    ∙ lent_session g.N.Name.named c.self.inside.seat.board c.self.inside.seat.seen c.self.inside.sender c.self.inside.transaction c.replace-none.new.self c.run-ran.new.work c.args.lent
    c.replace-none.ensures.new c.run-ran.ensures.own c.session-session.ensures.reader c.self.invariant in
    let draft = ap (λ (t : TransactionView). t.draft) c.replace-back.ensures.new ∙ c.none.ensures in
    ap (λ (s : ℕ). record { session = s; schema = g.N.Name.named.settings.schema; seat = c.self.inside.seat.seen; sender = c.self.inside.sender; draft = came.draft; front = came.front }) session
    ∙ ap (λ (v : SessionView). record v { draft = came.draft; front = came.front }) c.self.view_is
    ∙ ap (λ (d : Option Copied). record c.args.self.now { draft = d; front = came.front }) (draft ∙ sym c.requires.none)
