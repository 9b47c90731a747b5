-- What is stored of a store that goes on, one session after another.
use Rattle.std.proofs.Common.{◌≡◌, ℕ, suc, ◌+◌, ◌-◌, ◌<◌, ◌≤◌, List, [], ◌∷◌, ◌++◌, map, length, replicate, set, get_or, refl, sym, ap, ◌∙◌, subst, arith, length-append}
use Rattle.std.specs.List.{range_with_len}
use Rattle.std.proofs.lemmas.List.{append_assoc, length-replicate}
use Rattle.std.proofs.lemmas.List.FromFn.{length-map-range_with_len, map-range_with_len_more}
use Rattle.std.proofs.Math.Seq.{set-append_seam, get_or-append_seam}
use Rattle.std.specs.Prelude.{true, nat_le}
use Rattle.std.proofs.lemmas.Bool.{le-leb}
use Rattle.occ_types.specs.declared.limits.TheConstants.{MAX_NUMBER}
use Rattle.occ_model.specs.Log.{Base, last_folded}
use Rattle.occ_model.specs.World.{Settings, World, resumed, has_session, last_entered}
use Rattle.occ_model.proofs.Tests.{both_true}
use Rattle.occ_published.specs.Published.{NumbersFit}
use Rattle.occ_store.specs.Frames.{NumbersHaveRoom}
use Rattle.occ_board.specs.Rule.{Posted}
use Rattle.occ_board.specs.declared.words.Last.{Last}
use Rattle.occ_board.specs.declared.words.Words.{Words}
use Rattle.occ_board.specs.Words.{HasSession, behind, last_of, nothing, placed}

-- the words once the sessions up to a number are stored
abbrev pub continued_to : ℕ → (ℕ → ℕ) → ℕ → ℕ → Words
continued_to counter last sessions place = record {
  counter = counter;
  sessions = map (λ session. behind nothing (last session)) (range_with_len 1 place) ++ replicate (sessions - place) nothing;
}

module _ (counter : ℕ) (last : ℕ → ℕ) (sessions : ℕ) where
  own : ℕ → Last
  own session = behind nothing (last session)

  done : ℕ → List Last
  done place = map own (range_with_len 1 place)

  -- the next session has no word yet
  splits : (place : ℕ) → place < sessions → (continued_to counter last sessions place).sessions ≡ done place ++ nothing ∷ replicate (sessions - (place + 1)) nothing
  unfolding own done
  splits place below =
      let one : sessions - place ≡ suc (sessions - (place + 1)) = omega arith in
      ap (λ n. done place ++ replicate n nothing) one

  pub continued_has : (place : ℕ) → place < sessions → HasSession (continued_to counter last sessions place) (place + 1)
  unfolding own done
  continued_has place below =
      let all = ap length (splits place below) ∙ length-append (done place) (nothing ∷ replicate (sessions - (place + 1)) nothing) in
      let before = length-map-range_with_len own 1 place in
      let behind_it = length-replicate (sessions - (place + 1)) nothing in
      (omega arith, omega arith)

  pub continued_next : (place : ℕ) → place < sessions → last_of (continued_to counter last sessions place) (place + 1) ≡ nothing
  unfolding own done
  continued_next place below =
      let at : place + 1 - 1 ≡ length (done place) = (let count = length-map-range_with_len own 1 place in omega arith) in
      (λ i. get_or (splits place below i) (at i) nothing) ∙ get_or-append_seam (done place) nothing (replicate (sessions - (place + 1)) nothing) nothing

  pub continued_more : (place : ℕ) → place < sessions
      → placed (continued_to counter last sessions place) (place + 1) (behind (last_of (continued_to counter last sessions place) (place + 1)) (last (place + 1))) ≡ continued_to counter last sessions (place + 1)
  unfolding own done
  continued_more place below =
      let at : place + 1 - 1 ≡ length (done place) = (let count = length-map-range_with_len own 1 place in omega arith) in
      let others = replicate (sessions - (place + 1)) nothing in
      ap (λ l. record { counter = counter; sessions = l }) (
      (λ i. set (splits place below i) (at i) (behind (continued_next place below i) (last (place + 1))))
      ∙ set-append_seam (done place) nothing others (own (place + 1))
      ∙ sym (append_assoc (done place) (own (place + 1) ∷ []) others)
      ∙ ap (λ l. l ++ others) (sym (map-range_with_len_more own 1 place (place + 1) (omega arith)))
      )

-- The same, as the calls of the publisher ask for them.
module _ (world : World) (posted old : Posted) (place number : ℕ) (base : Base) (begun : world ≡ resumed world.settings world.base world.counter) (same : base ≡ world.base)
    (is : posted ≡ record old { words = continued_to world.counter (last_folded world.base) world.settings.sessions place })
    (below : place < world.settings.sessions) (at : number ≡ last_folded base (place + 1)) where
  stored : posted.words ≡ continued_to world.counter (last_folded world.base) world.settings.sessions place
  stored = ap (λ (p : Posted). p.words) is

  number_is : number ≡ last_folded world.base (place + 1)
  number_is = at ∙ ap (λ (b : Base). last_folded b (place + 1)) same

  pub store_has : HasSession posted.words (place + 1)
  store_has = subst (λ (w : Words). HasSession w (place + 1)) (sym stored) (continued_has world.counter (last_folded world.base) world.settings.sessions place below)

  pub store_rises : (last_of posted.words (place + 1)).number ≤ number
  store_rises =
      let none = ap (λ (w : Words). (last_of w (place + 1)).number) stored
      ∙ ap (λ (l : Last). l.number) (continued_next world.counter (last_folded world.base) world.settings.sessions place below) in
      omega arith

  pub store_fits : ((session : ℕ) → has_session world session ≡ true → last_entered world session ≤ MAX_NUMBER) → number ≤ MAX_NUMBER
  store_fits room =
      let there : has_session world (place + 1) ≡ true = both_true (nat_le 1 (place + 1)) (nat_le (place + 1) world.settings.sessions) (le-leb 1 (place + 1) (omega arith)) (le-leb (place + 1) world.settings.sessions (omega arith)) in
      let bound = room (place + 1) there in
      let entered : last_entered world (place + 1) ≡ last_folded world.base (place + 1) = ap (λ (w : World). last_entered w (place + 1)) begun in
      let own = number_is in
      omega arith

  pub store_more : (new : Posted) → new ≡ record posted { words = placed posted.words (place + 1) (behind (last_of posted.words (place + 1)) number) }
      → new ≡ record old { words = continued_to world.counter (last_folded world.base) world.settings.sessions (place + 1) }
  store_more new moved =
      moved ∙ (λ i. record (is i) { words = placed (stored i) (place + 1) (behind (last_of (stored i) (place + 1)) (number_is i)) })
      ∙ ap (λ w. record old { words = w }) (continued_more world.counter (last_folded world.base) world.settings.sessions place below)

-- a world that goes on says itself from what
pub begun_itself : (world : World) (settings : Settings) (base : Base) (counter : ℕ) → world ≡ resumed settings base counter → world ≡ resumed world.settings world.base world.counter
begun_itself world settings base counter is = subst (λ (w : World). w ≡ resumed w.settings w.base w.counter) (sym is) refl

-- and what it goes on from has its last numbers within their limit
pub numbers_room : (world : World) (settings : Settings) (base : Base) (counter : ℕ) → world ≡ resumed settings base counter → NumbersFit world → NumbersHaveRoom base settings.sessions
numbers_room world settings base counter is fits session from to =
    (subst NumbersFit is fits).numbers session (both_true (nat_le 1 session) (nat_le session settings.sessions) (le-leb 1 session from) (le-leb session settings.sessions to))
