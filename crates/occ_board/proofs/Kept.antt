-- Each atomic step keeps the rule of the board.
use Rattle.std.proofs.Common.{◌≡◌, ℕ, zero, suc, ◌+◌, ◌-◌, ◌<◌, ◌≤◌, List, [], ◌∷◌, ◌++◌, length, map, get_or, set, refl, sym, ap, ◌∙◌, subst, arith, ⊎_elim}
use Rattle.std.proofs.lemmas.List.{set-get_or, get_or_past, get_or_default, get_or-set_same, get_or-set_other, map-set}
use Rattle.std.proofs.lemmas.List.Elements.{All-set, All-replicate}
use Rattle.std.proofs.Math.ListN as lists
use Rattle.std.specs.List.{range_with_len}
use mathlib.Core.Logic.{dite}
use mathlib.Core.Option.{some, none, some-injective, some-ne-none}
use native.Mathlib.Decide.{dec_lt, ℕ_discrete}
use lib.ListN.{get_elem?}
use Rattle.atomic_table.specs.Table.{State, Me, step, keeps, stepped, opening, Allows, Enters}
use Rattle.atomic_table.specs.Seated.{TableId}
use Rattle.atomic_table.proofs.Lists.{at_set, set_else, at_longer, at_snoc}
use Rattle.occ_types.specs.declared.limits.TheConstants.{MAX_COUNTER, MAX_NUMBER}
use Rattle.occ_model.specs.declared.verdict.Verdict.{Verdict}
use Rattle.occ_model.specs.declared.verdict.Verdict.TheVariants.{Commit, BackUp}
use Rattle.occ_board.specs.declared.words.Last.{Last}
use Rattle.occ_board.specs.declared.words.Words.{Words}
use Rattle.occ_board.specs.declared.rule.Seen.{Seen}
use Rattle.occ_board.specs.declared.rule.Known.{Known}
use Rattle.occ_board.specs.declared.rule.Known.TheVariants.{Publishes, Reads}
use Rattle.occ_board.specs.Words.{word_of, nothing, blank, behind, last_of, counted, over, placed, written, HasRoom, HasSession, IsSound}
use Rattle.occ_board.specs.Rule.{unseen, started, polled, seen_by, Rises, IsBelow, Ruled, Seated, fresh}
use Rattle.occ_board.specs.Steps.{seated, loaded_counter, loaded_word, stored_counter, stored_word}
use Rattle.occ_board.proofs.Codes.{one-word}

abbrev Mine : Type 0
Mine = Me (Unit {0}) Known

abbrev St : Type 0
St = State (Unit {0}) Known

words_by : Known → Words
words_by (Publishes words) = words
words_by (Reads seen) = blank 0

one-seen : (a b : Seen) → Reads a ≡ Reads b → a ≡ b
one-seen a b same = ap seen_by same

one-words : (a b : Words) → Publishes a ≡ Publishes b → a ≡ b
unfolding words_by
one-words a b same = ap words_by same

apart : (words : Words) (seen : Seen) → some (Publishes words) ≡ some (Reads seen) → ⊥
apart words seen same = cc same

-- what stands has room in its word, and is no later than the counter
pub stands : (words : Words) → IsSound words → (session : ℕ) → HasRoom (last_of words session) × ((last_of words session).tn ≤ words.counter)
stands words sound session = dite (dec_lt (session - 1) (length words.sessions))
    (λ inside. sound.sessions (session - 1) nothing inside)
    (λ outside. subst (λ (last : Last). HasRoom last × (last.tn ≤ words.counter)) (sym (get_or_past words.sessions (session - 1) nothing (omega arith)))
    (record { number = omega arith; tn = omega arith }, omega arith))

-- the word in memory is that of what stands
reads-word : (words : Words) (session : ℕ) → 0 < session → get_or (written words) session 0 ≡ word_of (last_of words session)
reads-word words zero positive = absurd (omega arith)
reads-word words (suc n) positive =
    let e : n ≡ suc n - 1 = omega arith in
    lists.get_or-map word_of words.sessions n nothing ∙ ap (λ (k : ℕ). word_of (get_or words.sessions k nothing)) e

-- A seat's view moves, and no word does.
sees : (s : St) (r : Ruled s) (id : ℕ) (seen seen' : Seen) (i : ℕ) → get_elem? s.views id ≡ some (Reads seen) → IsBelow r.words seen'
    → Ruled (stepped s i (get_or s.words i 0) id [] (Reads seen') keeps)
sees s r id seen seen' i at below = record {
  words = r.words;
  published = set_else s.views id 0 (Reads seen') (λ same. apart r.words seen (sym r.published ∙ ap (get_elem? s.views) same ∙ at)) ∙ r.published;
  written = set-get_or s.words i 0 ∙ r.written;
  sound = r.sound;
  below = λ seat other there. ⊎_elim
      (λ here. subst (IsBelow r.words) (one-seen seen' other here.1) below)
      (λ else'. r.below seat other else'.1)
      (at_set s.views id seat (Reads seen') (Reads other) there);
}

-- what a seat knows and holds
abbrev reads : Seen → Mine
reads seen = (Reads seen, [])

pub loads-counter : (slots id : ℕ) (seen : Seen) → Allows Ruled slots id (Reads seen, []) 0 (λ n. n) (loaded_counter (step slots 0 0 0 none) (Reads seen, []))
loads-counter slots id seen s r _ at _ =
    let n : ℕ = get_or s.words 0 0 in
    let is : n ≡ r.words.counter = ap (λ (l : List ℕ). get_or l 0 0) r.written in
    let below = r.below id seen at in
    let counter = below.counter in
    let later = below.last.tn in
    let behind = (stands r.words r.sound seen.session).1 in
    let most = r.sound.counter in (
      Reads (started seen n),
      keeps,
      tt,
      sees s r id seen (started seen n) 0 at (record { counter = omega arith; last = below.last }),
      λ other same. let e = one-seen seen other same in (
        ap (λ (o : Seen). reads (started o n)) e,
        subst (λ (o : Seen). o.counter ≤ n) e (omega arith),
        subst (λ (o : Seen). o.last.tn ≤ n) e (omega arith),
        omega arith,
      ),
    )

pub loads-word : (slots id : ℕ) (seen : Seen) (session : ℕ) → session ≡ seen.session → 0 < session
    → Allows Ruled slots id (Reads seen, []) session (λ n. n) (loaded_word (step slots session 0 0 none) (Reads seen, []))
loads-word slots id seen session mine positive s r _ at _ =
    let n : ℕ = get_or s.words session 0 in
    let last = last_of r.words session in
    let is : n ≡ word_of last = ap (λ (l : List ℕ). get_or l session 0) r.written ∙ reads-word r.words session positive in
    let below = r.below id seen at in
    let rises : Rises seen.last last = subst (λ (k : ℕ). Rises seen.last (last_of r.words k)) (sym mine) below.last in
    let moved : Rises last (last_of r.words seen.session) = subst (λ (k : ℕ). Rises last (last_of r.words k)) mine (record { number = omega arith; tn = omega arith }) in (
      Reads (polled seen last),
      keeps,
      tt,
      sees s r id seen (polled seen last) session at (record { counter = below.counter; last = moved }),
      λ other same _. let e = one-seen seen other same in (
        last,
        is,
        (stands r.words r.sound session).0,
        subst (λ (o : Seen). Rises o.last last) e rises,
        ap (λ (o : Seen). reads (polled o last)) e,
      ),
    )

here : (views : List Known) (a b : Known) → get_elem? views 0 ≡ some a → get_elem? (set views 0 b) 0 ≡ some b
here [] a b at = absurd (some-ne-none a (sym at))
here (x ∷ xs) a b at = refl

-- The publisher's view and a word move together.
stores : (s : St) (r : Ruled s) (words new : Words) (i n : ℕ) → get_elem? s.views 0 ≡ some (Publishes words) → (r.words ≡ words → set (written words) i n ≡ written new)
    → IsSound new → ((seen : Seen) → IsBelow words seen → IsBelow new seen) → Ruled (stepped s i n 0 [] (Publishes new) keeps)
stores s r words new i n at memory sound later =
    let same : r.words ≡ words = one-words r.words words (some-injective (Publishes r.words) (Publishes words) (sym r.published ∙ at)) in record {
      words = new;
      published = here s.views (Publishes words) (Publishes new) at;
      written = ap (λ (l : List ℕ). set l i n) (r.written ∙ ap written same) ∙ memory same;
      sound = sound;
      below = λ seat other there. ⊎_elim
          (λ mine. absurd (apart new other (ap some mine.1)))
          (λ else'. later other (subst (λ (w : Words). IsBelow w other) same (r.below seat other else'.1)))
          (at_set s.views 0 seat (Publishes new) (Reads other) there);
    }

pub sound-counted : (words : Words) (tn : ℕ) → IsSound words → words.counter ≤ tn → tn ≤ MAX_COUNTER → IsSound (counted words tn)
sound-counted words tn sound le most = record {
  counter = most;
  sessions = λ i d inside. let both = sound.sessions i d inside in let old = both.1 in (both.0, omega arith);
}

pub stores-counter : (slots : ℕ) (words : Words) (tn : ℕ) → IsSound words → words.counter ≤ tn → tn ≤ MAX_COUNTER
    → Allows Ruled slots 0 (Publishes words, []) 0 (λ _. tn) (λ _. stored_counter (step slots 0 tn 0 none) (Publishes words, []) tn)
stores-counter slots words tn sound le most s r _ at _ = (
  Publishes (counted words tn),
  keeps,
  tt,
  stores s r words (counted words tn) 0 tn at (λ _. refl) (sound-counted words tn sound le most)
      (λ seen below. let old = below.counter in record { counter = omega arith; last = below.last }),
  λ other same. ap (λ (w : Words). (Publishes (counted w tn), [])) (one-words words other same),
)

pub sound-placed : (words : Words) (session : ℕ) (last : Last) → IsSound words → HasRoom last → last.tn ≤ words.counter → IsSound (placed words session last)
sound-placed words session last sound room behind = record {
  counter = sound.counter;
  sessions = All-set (λ (l : Last). HasRoom l × (l.tn ≤ words.counter)) words.sessions (session - 1) last (room, behind) sound.sessions;
}

below-placed : (words : Words) (session : ℕ) (last : Last) → HasSession words session → Rises (last_of words session) last
    → (seen : Seen) → IsBelow words seen → IsBelow (placed words session last) seen
below-placed words session last has rises seen below = dite (ℕ_discrete (seen.session - 1) (session - 1))
    (λ same. let b = below.last in let n = b.number in let t = b.tn in let rn = rises.number in let rt = rises.tn in
    let k : ℕ = session - 1 in
    let e : last_of words seen.session ≡ last_of words session = ap (λ (j : ℕ). get_or words.sessions j nothing) same in
    let en = ap (λ (l : Last). l.number) e in let et = ap (λ (l : Last). l.tn) e in record {
      counter = below.counter;
      last = subst (Rises seen.last) (sym (ap (λ (j : ℕ). get_or (set words.sessions k last) j nothing) same ∙ get_or-set_same words.sessions k last nothing (let p = has.0 in let q = has.1 in omega arith)))
          (record { number = omega arith; tn = omega arith });
    })
    (λ other. record {
      counter = below.counter;
      last = subst (Rises seen.last) (sym (get_or-set_other words.sessions (session - 1) (seen.session - 1) last nothing other)) below.last;
    })

memory-placed : (words : Words) (session : ℕ) (last : Last) → 0 < session → set (written words) session (word_of last) ≡ written (placed words session last)
memory-placed words zero last positive = absurd (omega arith)
memory-placed words (suc n) last positive =
    let e : n ≡ suc n - 1 = omega arith in
    ap (λ (l : List ℕ). words.counter ∷ l) (sym (map-set word_of words.sessions n last) ∙ ap (λ (k : ℕ). map word_of (set words.sessions k last)) e)

pub stores-word : (slots : ℕ) (words : Words) (session : ℕ) (last : Last) → IsSound words → HasSession words session → HasRoom last → last.tn ≤ words.counter → Rises (last_of words session) last
    → Allows Ruled slots 0 (Publishes words, []) session (λ _. word_of last) (λ _. stored_word (step slots session (word_of last) 0 none) (Publishes words, []) (word_of last))
stores-word slots words session last sound has room behind rises s r _ at _ = (
  Publishes (placed words session last),
  keeps,
  tt,
  stores s r words (placed words session last) session (word_of last) at (λ _. memory-placed words session last has.0) (sound-placed words session last sound room behind)
      (below-placed words session last has rises),
  λ other new same fits written. λ i. (Publishes (placed (one-words words other same i) session (one-word last new room fits written i)), []),
)

-- A seat is made, which has loaded nothing.
pub opens : (slots session : ℕ) (first : Known) → Enters Ruled slots session (λ n w. seated (step slots session 0 0 none) (first, []) n (w, []))
opens slots session first s r _ _ = (
  Reads (unseen session),
  record {
    words = r.words;
    published = at_longer s.views (Reads (unseen session) ∷ []) 0 (Publishes r.words) r.published;
    written = r.written;
    sound = r.sound;
    below = λ seat other there. ⊎_elim
        (λ old. r.below seat other old)
        (λ new. subst (IsBelow r.words) (one-seen (unseen session) other new) (record { counter = omega arith; last = record { number = omega arith; tn = omega arith } }))
        (at_snoc s.views (Reads (unseen session)) (Reads other) seat there);
  },
  refl,
)

pub sound-blank : (sessions : ℕ) → IsSound (blank sessions)
sound-blank sessions = record {
  counter = omega arith;
  sessions = All-replicate (λ (l : Last). HasRoom l × (l.tn ≤ 0)) sessions nothing (record { number = omega arith; tn = omega arith }, omega arith);
}

-- the board as it is made
pub begins : (sessions : ℕ) (memory : List ℕ) → memory ≡ written (blank sessions) → Ruled (opening memory [] (Publishes (blank sessions)))
begins sessions memory is = record {
  words = blank sessions;
  published = refl;
  written = is;
  sound = sound-blank sessions;
  below = λ seat seen there. absurd (none-reads seat seen there);
}
  where
    none-reads : (seat : ℕ) (seen : Seen) → get_elem? (Publishes (blank sessions) ∷ []) seat ≡ some (Reads seen) → ⊥
    none-reads zero seen there = apart (blank sessions) seen there
    none-reads (suc n) seen there = some-ne-none (Reads seen) (sym there)

-- The same, as the calls of the publisher and of a seat ask for them.
pub counter-stored : (slots id : ℕ) (me : Mine) (words old : Words) (tn : ℕ) → words ≡ old → id ≡ 0 → me ≡ (Publishes words, []) → IsSound words → old.counter ≤ tn → tn ≤ MAX_COUNTER
    → Allows Ruled slots id me 0 (λ _. tn) (λ _. stored_counter (step slots 0 tn 0 none) me tn)
counter-stored slots id me words old tn same first is sound le most =
    subst (λ (z : ℕ × Mine). Allows Ruled slots z.0 z.1 0 (λ _. tn) (λ _. stored_counter (step slots 0 tn 0 none) z.1 tn)) (λ i. (sym first i, sym is i))
    (stores-counter slots words tn sound (subst (λ (w : Words). w.counter ≤ tn) (sym same) le) most)

pub room-over : (counter : ℕ) (last : Last) (number : ℕ) (status : Verdict) → HasRoom last → last.tn ≤ counter → counter ≤ MAX_COUNTER → number ≤ MAX_NUMBER
    → HasRoom (over counter last number status) × ((over counter last number status).tn ≤ counter)
room-over counter last number Commit room behind most fits = (record { number = fits; tn = most }, omega arith)
room-over counter last number (BackUp cause) room behind most fits = (record { number = fits; tn = room.tn }, behind)

rises-over : (counter : ℕ) (last : Last) (number : ℕ) (status : Verdict) → last.tn ≤ counter → last.number ≤ number → Rises last (over counter last number status)
rises-over counter last number Commit behind le = record { number = le; tn = behind }
rises-over counter last number (BackUp cause) behind le = record { number = le; tn = omega arith }

-- what a session's word may be stored as: it has room, is no later than the counter, and says no less than before
MayStand : Words → ℕ → Last → Type 0
MayStand words session last = HasRoom last × (last.tn ≤ words.counter) × Rises (last_of words session) last

-- A word is stored that was made of what stands.
stored-word : (slots id : ℕ) (me : Mine) (words old : Words) (session word : ℕ) (f : Last → Last) (here last : Last) → words ≡ old → id ≡ 0 → me ≡ (Publishes words, []) → IsSound words
    → HasSession old session → (HasSession words session → MayStand words session (f (last_of words session))) → here ≡ get_or words.sessions (session - 1) here → last ≡ f here → word ≡ word_of last
    → Allows Ruled slots id me session (λ _. word) (λ _. stored_word (step slots session word 0 none) me word)
unfolding MayStand
stored-word slots id me words old session word f here last same first is sound has may found made written =
    let before = last_of words session in
    let has' = subst (λ (w : Words). HasSession w session) (sym same) has in
    let p = has'.0 in
    let q = has'.1 in
    let e : here ≡ before = found ∙ get_or_default words.sessions (session - 1) here nothing (omega arith) in
    let stands = may has' in
    let made' : last ≡ f before = made ∙ ap f e in
    subst (λ (z : ℕ × Mine × ℕ). Allows Ruled slots z.0 z.1 session (λ _. z.2) (λ _. stored_word (step slots session z.2 0 none) z.1 z.2)) (λ i. (sym first i, sym is i, sym (written ∙ ap word_of made') i))
    (stores-word slots words session (f before) sound has' stands.0 stands.1 stands.2)

-- that of a transaction that is over
pub word-stored : (slots id : ℕ) (me : Mine) (words old : Words) (session number word : ℕ) (status : Verdict) (here last : Last) → words ≡ old → id ≡ 0 → me ≡ (Publishes words, []) → IsSound words
    → HasSession old session → (last_of old session).number ≤ number → number ≤ MAX_NUMBER → here ≡ get_or words.sessions (session - 1) here → last ≡ over words.counter here number status → word ≡ word_of last
    → Allows Ruled slots id me session (λ _. word) (λ _. stored_word (step slots session word 0 none) me word)
unfolding MayStand
word-stored slots id me words old session number word status here last same first is sound has le fits found made written =
    let before = last_of words session in
    let stood = stands words sound session in
    let room = room-over words.counter before number status stood.0 stood.1 sound.counter fits in
    let rises = rises-over words.counter before number status stood.1 (subst (λ (w : Words). (last_of w session).number ≤ number) (sym same) le) in
    stored-word slots id me words old session word (λ l. over words.counter l number status) here last same first is sound has (λ _. (room.0, room.1, rises)) found made written

-- that of a session that goes on behind a number
pub behind-stored : (slots id : ℕ) (me : Mine) (words old : Words) (session number word : ℕ) (here last : Last) → words ≡ old → id ≡ 0 → me ≡ (Publishes words, []) → IsSound words
    → HasSession old session → (last_of old session).number ≤ number → number ≤ MAX_NUMBER → here ≡ get_or words.sessions (session - 1) here → last ≡ behind here number → word ≡ word_of last
    → Allows Ruled slots id me session (λ _. word) (λ _. stored_word (step slots session word 0 none) me word)
unfolding MayStand
behind-stored slots id me words old session number word here last same first is sound has le fits found made written =
    let stood = stands words sound session in
    let more = subst (λ (w : Words). (last_of w session).number ≤ number) (sym same) le in
    stored-word slots id me words old session word (λ l. behind l number) here last same first is sound has
    (λ _. (record { number = fits; tn = stood.0.tn }, stood.1, record { number = more; tn = omega arith })) found made written

pub counter-loaded : (slots id : ℕ) (me : Mine) (seen : Seen) → me ≡ (Reads seen, []) → Allows Ruled slots id me 0 (λ n. n) (loaded_counter (step slots 0 0 0 none) me)
counter-loaded slots id me seen is = subst (λ (m : Mine). Allows Ruled slots id m 0 (λ n. n) (loaded_counter (step slots 0 0 0 none) m)) (sym is) (loads-counter slots id seen)

pub word-loaded : (slots id : ℕ) (me : Mine) (seen : Seen) (session : ℕ) → me ≡ (Reads seen, []) → seen.session ≡ session → 0 < session
    → Allows Ruled slots id me session (λ n. n) (loaded_word (step slots session 0 0 none) me)
word-loaded slots id me seen session is mine positive =
    subst (λ (m : Mine). Allows Ruled slots id m session (λ n. n) (loaded_word (step slots session 0 0 none) m)) (sym is) (loads-word slots id seen session (sym mine) positive)

-- a seat that has loaded still knows what it has loaded
pub still-reads : (me new : Mine) (seen after : Seen) → me ≡ (Reads seen, []) → new ≡ (Reads after, me.1) → (new ≡ (Reads (seen_by new.0), [])) × (seen_by new.0 ≡ after)
still-reads me new seen after is moved =
    let e : new ≡ (Reads after, []) = moved ∙ ap (λ (m : Mine). (Reads after, m.1)) is in
    (e ∙ ap (λ (m : Mine). (Reads (seen_by m.0), [])) (sym e), ap (λ (m : Mine). seen_by m.0) e)

-- one more seat
one-more : (board : TableId) (first count : ℕ) → map (fresh board) (range_with_len first count) ++ fresh board (first + count) ∷ [] ≡ map (fresh board) (range_with_len first (count + 1))
one-more board first zero = ap (λ (k : ℕ). fresh board k ∷ []) (omega arith)
one-more board first (suc count) =
    let e : first + suc count ≡ first + 1 + count = omega arith in
    let e' : suc (count + 1) ≡ suc count + 1 = omega arith in
    ap (λ (l : List Seated). fresh board first ∷ l) (ap (λ (k : ℕ). map (fresh board) (range_with_len (first + 1) count) ++ fresh board k ∷ []) e ∙ one-more board (first + 1) count)
    ∙ ap (λ (k : ℕ). map (fresh board) (range_with_len first k)) e'

pub seats_more : (board : TableId) (place : ℕ) (before after : List Seated) (seat : Seated) → before ≡ map (fresh board) (range_with_len 1 place) → seat ≡ fresh board (place + 1) → after ≡ before ++ seat ∷ []
    → after ≡ map (fresh board) (range_with_len 1 (place + 1))
seats_more board place before after seat so made pushed =
    let e : place + 1 ≡ 1 + place = omega arith in
    pushed ∙ (λ i. so i ++ (made ∙ ap (fresh board) e) i ∷ []) ∙ one-more board 1 place
