use Rattle.std.proofs.Common.{rules, ap}
use Rattle.occ_board.proofs.Kept.{behind-stored}
use Rattle.occ_board.proofs.publishing.Publisher.resumed.Goals as goal

pub store-requires : goal.store-requires
store-requires g c =
    let i = c.self.invariant in (
      search rules,
      search rules,
      behind-stored _ _ _ _ _ _ _ _ _ _ (ap (λ p. p.words) c.self.view_is) i.2 i.3 i.4 c.requires.session c.requires.number.0 c.requires.number.1 c.index.ensures c.behind-last.ensures c.word-word.ensures,
    )
