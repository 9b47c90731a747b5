-- The tokens stay tied to the world and to the file.
use Rattle.std.proofs.Common.{◌≡◌, ℕ, ◌⊎◌, inl, inr, Bool, true, false, length, Option, None, Some, refl, sym, ap, subst, ◌∙◌}
use Rattle.std.specs.Prelude.{option_and_then}
use Rattle.boxcar.specs.Table.{Shelves, Where, Shows}
use Rattle.occ_model.specs.Log.{LogRow, Standing, Open, Writing, Done, Back, Case}
use Rattle.occ_model.specs.World.{World, latest}
use Rattle.occ_types.specs.declared.fault.Fault.{Fault}
use Rattle.occ_model.specs.Event.{Item, Event, Enter, Reply, Refused, Answered, Forgotten, Entered, Closed, Decided, Wrote, NoMore, Finished, BackedUp, EndedBack, RanAlone, Folded}
use Rattle.occ_model.specs.Validity.{verdict}
use Rattle.occ_model.specs.Step.{Step}
use Rattle.occ_model.proofs.InSchema.{same_settings}
use Rattle.occ_model.proofs.Tests.{clash}
use Rattle.occ_core.specs.OpenCases.{case_of, open_case, IsRight}
use Rattle.occ_core.specs.Replies.{outcome_of}
use Rattle.occ_core.specs.declared.outcomes.Outcome as code_outcome
use Rattle.occ_core.specs.declared.outcomes.Outcome.TheVariants as outcomes
use Rattle.occ_filed.specs.Filed.{Tokens, token_of, kept, AreTied, kept_after, index_after}
use Rattle.occ_model.specs.EndLaws.{Enters}
use Rattle.occ_model.proofs.RowsStay.{cases_stay}
use Rattle.occ_filed.proofs.KeptTokens.{kept_from, kept_length, kept_none, kept_twice}

-- an open case is that of a latest row that is open
opens : (standing : Standing) (index : ℕ) (case : Case) → case_of standing ≡ Some (index, case) → standing ≡ Open index case
opens (Open i c) index case e =
    let pair : ◌≡◌ {A = ℕ × Case} (i, c) (index, case) = cc in
    λ n. Open (pair n).0 (pair n).1
opens (Writing done) index case e = cc
opens (Done number) index case e = cc
opens (Back cause) index case e = cc

row_of : (world : World) (session index : ℕ) (case : Case) → open_case world session ≡ Some (index, case) → (row : LogRow) × (latest session world.log ≡ Some row) × (row.standing ≡ Open index case)
row_of world session index case there_is = at (latest session world.log) refl there_is
  where
    at : (o : Option LogRow) → latest session world.log ≡ o → option_and_then (λ row. case_of row.standing) o ≡ Some (index, case) → (row : LogRow) × (latest session world.log ≡ Some row) × (row.standing ≡ Open index case)
    at None there e = cc
    at (Some row) there e = (row, there, opens row.standing index case e)

open_at : (world : World) (session index : ℕ) (case : Case) (row : LogRow) → latest session world.log ≡ Some row → row.standing ≡ Open index case → open_case world session ≡ Some (index, case)
open_at world session index case row there stands = ap (option_and_then (λ row. case_of row.standing)) there ∙ ap case_of stands

-- over a step, where the tokens have none for a session whose request enters
pub still : (file : Shelves) (tokens : Tokens) (old new : World) (event : Event) (reply : Reply) → Step old event reply new
    → ((session index : ℕ) (case : Case) (row : LogRow) → Enters old event reply session index case row → token_of tokens session ≡ None)
    → AreTied old file tokens → AreTied new file tokens
still file tokens old new event reply step none tied = record {
  each_session = tied.each_session ∙ sym (ap (λ s. s.sessions) (same_settings old new event reply step));
  of_file = tied.of_file;
  of_row = λ session token is index case at. let r = row_of new session index case at in
      go session token is index case r.0 r.2 (cases_stay old new event reply step session index case r.0 r.1 r.2);
}
  where
    go : (session : ℕ) (token : Where Case) → token_of tokens session ≡ Some token → (index : ℕ) (case : Case) (row : LogRow) → row.standing ≡ Open index case
        → (latest session old.log ≡ Some row) ⊎ Enters old event reply session index case row → token.value ≡ case
    go session token is index case row stands (inl there) = tied.of_row session token is index case (open_at old session index case row there stands)
    go session token is index case row stands (inr enters) = let clash : None ≡ Some token = sym (none session index case row enters) ∙ is in cc

-- over a call that enters nothing
abbrev pub is_entry : Event → Bool
is_entry (Enter session item) = true
is_entry event = false

pub moved : (file : Shelves) (tokens : Tokens) (old new : World) (event : Event) (reply : Reply) → is_entry event ≡ false → Step old event reply new
    → AreTied old file tokens → AreTied new file tokens
moved file tokens old new event reply other step =
    still file tokens old new event reply step (λ s index case row e. let is : is_entry event ≡ true = ap is_entry e.event_is in clash (is_entry event) is other)

-- with another token for a session, that is of the file and shows its open case
pub keeps : (world : World) (file : Shelves) (tokens : Tokens) (session : ℕ) (token : Option (Where Case))
    → ((now : Where Case) → token ≡ Some now → Shows file now)
    → ((now : Where Case) → token ≡ Some now → (index : ℕ) (case : Case) → open_case world session ≡ Some (index, case) → now.value ≡ case)
    → AreTied world file tokens → AreTied world file (kept tokens session token)
keeps world file tokens session token shows right tied = record {
  each_session = kept_length tokens session token ∙ tied.each_session;
  of_file = λ other now is. file_at other now (kept_from tokens session other token now is);
  of_row = λ other now is. row_at other now (kept_from tokens session other token now is);
}
  where
    file_at : (other : ℕ) (now : Where Case) → (token ≡ Some now) × (other ≡ session) ⊎ (token_of tokens other ≡ Some now) → Shows file now
    file_at other now (inl own) = shows now own.0
    file_at other now (inr was) = tied.of_file other now was

    row_at : (other : ℕ) (now : Where Case) → (token ≡ Some now) × (other ≡ session) ⊎ (token_of tokens other ≡ Some now) → (index : ℕ) (case : Case) → open_case world other ≡ Some (index, case) → now.value ≡ case
    row_at other now (inl own) index case at = right now own.0 index case (sym (ap (open_case world) own.1) ∙ at)
    row_at other now (inr was) index case at = tied.of_row other now was index case at

-- over an entry, where none is kept for its session
pub unfiled : (file : Shelves) (tokens : Tokens) (old new : World) (session : ℕ) (item : Item) (reply : Reply) → Step old (Enter session item) reply new
    → AreTied old file tokens → AreTied new file (kept tokens session None)
unfiled file tokens old new session item reply step tied =
    still file (kept tokens session None) old new (Enter session item) reply step none (keeps old file tokens session None (λ now e. cc) (λ now e. cc) tied)
  where
    none : (s index : ℕ) (case : Case) (row : LogRow) → Enters old (Enter session item) reply s index case row → token_of (kept tokens session None) s ≡ None
    none s index case row e = let is = e.event_is in let same : session ≡ s = cc in ap (token_of (kept tokens session None)) (sym same) ∙ kept_none tokens session

-- over every entry
module _ (file : Shelves) (tokens : Tokens) (old new : World) (session : ℕ) (item : Item) where
  other : (reply : Reply) → ((place index : ℕ) → reply ≡ Entered place index → ⊥) → Step old (Enter session item) reply new → AreTied old file tokens → AreTied new file tokens
  other reply not step = still file tokens old new (Enter session item) reply step (λ s index case row e. absurd (not row.place index e.reply_is))

  pub entered_tied : (reply : Reply) → Step old (Enter session item) reply new → AreTied old file tokens → AreTied new file (kept_after tokens session None reply)
  entered_tied (Entered place index) step tied = unfiled file tokens old new session item (Entered place index) step tied
  entered_tied (Refused fault) step tied = other (Refused fault) (λ p i e. cc) step tied
  entered_tied (Answered answer) step tied = other (Answered answer) (λ p i e. cc) step tied
  entered_tied (Forgotten there) step tied = other (Forgotten there) (λ p i e. cc) step tied
  entered_tied Closed step tied = other Closed (λ p i e. cc) step tied
  entered_tied (Decided verdict) step tied = other (Decided verdict) (λ p i e. cc) step tied
  entered_tied (Wrote object) step tied = other (Wrote object) (λ p i e. cc) step tied
  entered_tied NoMore step tied = other NoMore (λ p i e. cc) step tied
  entered_tied (Finished number) step tied = other (Finished number) (λ p i e. cc) step tied
  entered_tied (BackedUp number) step tied = other (BackedUp number) (λ p i e. cc) step tied
  entered_tied (EndedBack cause) step tied = other (EndedBack cause) (λ p i e. cc) step tied
  entered_tied (RanAlone number answers) step tied = other (RanAlone number answers) (λ p i e. cc) step tied
  entered_tied (Folded count) step tied = other (Folded count) (λ p i e. cc) step tied

module _ {Z : Type 0} where
  -- and that leaves the tokens
  pub other_kept : (tokens : Tokens) (session : ℕ) (token : Option (Where Case)) (outcome : code_outcome.Outcome Z) → ((place : ℕ) → outcome ≡ outcomes.Entered place → ⊥)
      → kept_after tokens session token (outcome_of outcome) ≡ tokens
  other_kept tokens session token (outcomes.Entered place) not = absurd (not place refl)
  other_kept tokens session token (outcomes.Committed tn) not = refl
  other_kept tokens session token (outcomes.BackedUp cause) not = refl
  other_kept tokens session token (outcomes.RanAlone tn answers) not = refl
  other_kept tokens session token outcomes.MarkedClosed not = refl

  -- and answers no index
  pub other_index : (tokens : Tokens) (session : ℕ) (outcome : code_outcome.Outcome Z) → ((place : ℕ) → outcome ≡ outcomes.Entered place → ⊥) → index_after tokens session outcome ≡ None
  other_index tokens session (outcomes.Entered place) not = absurd (not place refl)
  other_index tokens session (outcomes.Committed tn) not = refl
  other_index tokens session (outcomes.BackedUp cause) not = refl
  other_index tokens session (outcomes.RanAlone tn answers) not = refl
  other_index tokens session outcomes.MarkedClosed not = refl

-- what is kept after none was, is kept
pub kept_after_none : (tokens : Tokens) (session : ℕ) (token : Option (Where Case)) (reply : Reply) → kept_after (kept_after tokens session None reply) session token reply ≡ kept_after tokens session token reply
kept_after_none tokens session token (Entered place index) = kept_twice tokens session None token
kept_after_none tokens session token (Refused fault) = refl
kept_after_none tokens session token (Answered answer) = refl
kept_after_none tokens session token (Forgotten there) = refl
kept_after_none tokens session token Closed = refl
kept_after_none tokens session token (Decided verdict) = refl
kept_after_none tokens session token (Wrote object) = refl
kept_after_none tokens session token NoMore = refl
kept_after_none tokens session token (Finished number) = refl
kept_after_none tokens session token (BackedUp number) = refl
kept_after_none tokens session token (EndedBack cause) = refl
kept_after_none tokens session token (RanAlone number answers) = refl
kept_after_none tokens session token (Folded count) = refl

-- a store that was just opened, with no tokens
pub opened_tied : (world : World) (file : Shelves) (tokens : Tokens) → length tokens ≡ world.settings.sessions → ((session : ℕ) → token_of tokens session ≡ None) → AreTied world file tokens
opened_tied world file tokens count none = record {
  each_session = count;
  of_file = λ session token is. let clash : None ≡ Some token = sym (none session) ∙ is in cc;
  of_row = λ session token is index case at. let clash : None ≡ Some token = sym (none session) ∙ is in cc;
}

-- what shows the own case of a session has its verdict
pub own_right : (world : World) (file : Shelves) (tokens : Tokens) → AreTied world file tokens → (session : ℕ) (own judged : Where Case) → token_of tokens session ≡ Some own → own.value ≡ judged.value
    → IsRight world session (verdict judged.value)
own_right world file tokens tied session own judged is agree = λ index case at. ap verdict (sym agree ∙ tied.of_row session own is index case at)
