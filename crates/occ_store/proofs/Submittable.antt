-- An open transaction stays one that may be submitted, whatever it writes.
use Rattle.std.proofs.Common.{◌≡◌, ◌⊎◌, ⊎_elim, ℕ, Bool, false, not, ◌||◌, ◌==◌, nat_le, List, [], ◌∷◌, Option, None, Some, Result, Ok, Err, OnOk, OnErr, refl, sym, ap, ◌∙◌, subst}
use Rattle.std.proofs.lemmas.Bool.{eq-eqb}
use Rattle.occ_types.specs.declared.fault.Fault.{Fault}
use Rattle.occ_types.specs.declared.fault.Fault.TheVariants as faults
use Rattle.occ_types.specs.declared.limits.TheConstants.{MAX_NUMBER}
use Rattle.occ_types.specs.Schema.{fault_if, first_fault}
use Rattle.occ_model.specs.State.{Write}
use Rattle.occ_model.specs.Overlay.{set}
use Rattle.occ_model.specs.Event.{Request, Reply, Refused, Answered, Forgotten, Entered, Closed, Decided, Wrote, NoMore, Finished, BackedUp, EndedBack, RanAlone, Folded}
use Rattle.occ_queue.specs.Items.{item_of}
use Rattle.occ_queue.specs.Numbering.{next, is_full, turn_fault, refusal_of_submit}
use Rattle.occ_queue.specs.declared.items.Item as code_item
use Rattle.occ_queue.specs.declared.items.Item.TheVariants as items
use Rattle.occ_types.specs.Object.{Object}
use Rattle.occ_types.specs.Row.{Row}
use Rattle.occ_sets.specs.Sets.{Copied}
use Rattle.occ_queue.specs.Lanes.{Known, as_queue}
use Rattle.occ_open.specs.Transactions.{written, none_open, open_after}
use Rattle.atomic_table.specs.Seated.{TableId}
use Rattle.occ_board.specs.declared.rule.Seen.{Seen}
use Rattle.occ_history.specs.History.{Party, Session, Client}
use Rattle.occ_store.specs.Names.{Named, lane_of}
use Rattle.occ_store.specs.Transactions.{TransactionView, IsReader}
use Rattle.occ_store.specs.Sessions.{IsNext, MayBeSubmitted, draft_of}

written_next : (sender : Known) (draft : Option Copied) (object : Object) (row : Option Row) → MayBeSubmitted sender draft → MayBeSubmitted sender (written draft object row)
written_next sender None object row may copy is = may copy is
written_next sender (Some open_one) object row may copy is =
    let next = may open_one refl in
    let same : record open_one { writes = set open_one.writes object row } ≡ copy = cc in
    subst (IsNext sender) same (record { number = next.number; spare = next.spare; unclosed = next.unclosed })

-- the transaction that a request was made of comes back with the request
pub back_again : {Z : Type 0} (before after : Option Copied) (item : code_item.Item Z) (number start : ℕ) (writes : List Write)
    → before ≡ Some (record { number = number; start = start; writes = writes }) → item ≡ items.Request number start writes → after ≡ draft_of (item_of item) → after ≡ before
back_again before after item number start writes was is again = again ∙ ap (λ (i : code_item.Item _). draft_of (item_of i)) is ∙ sym was

-- A request of the open transaction is in turn: where it is refused, the queue is full.
pub submit_refused : (sender : Known) (draft : Option Copied) (number start : ℕ) (writes : List Write) (fault : Fault)
    → draft ≡ Some (record { number = number; start = start; writes = writes }) → MayBeSubmitted sender draft
    → refusal_of_submit (as_queue sender) (Request number start writes) ≡ Some fault
    → first_fault (first_fault (fault_if (as_queue sender).closed faults.Closed ∷ none_open draft ∷ []) ∷ fault_if (is_full (as_queue sender)) faults.QueueFull ∷ []) ≡ Some fault
submit_refused sender draft number start writes fault is may refused =
    let due = may (record { number = number; start = start; writes = writes }) is in
    let queue = as_queue sender in
    let full = fault_if (is_full queue) faults.QueueFull in
    let spare = fault_if (nat_le MAX_NUMBER (next queue)) faults.NumbersExhausted in
    let wrong = fault_if (false || not (number == next queue)) faults.OutOfTurn in
    let is_open : none_open draft ≡ None = ap none_open is in
    let has_spare : spare ≡ None = subst (λ (n : ℕ). fault_if (nat_le MAX_NUMBER n) faults.NumbersExhausted ≡ None) due.number due.spare in
    let in_turn : wrong ≡ None = ap (λ (b : Bool). fault_if (false || not b) faults.OutOfTurn) (eq-eqb number (next queue) due.number) in
    let here : first_fault (fault_if queue.closed faults.Closed ∷ none_open draft ∷ []) ≡ None =
    ap (λ (f : Option Fault). first_fault (f ∷ none_open draft ∷ [])) due.unclosed ∙ ap (λ (f : Option Fault). first_fault (f ∷ [])) is_open in
    let there : turn_fault queue (Request number start writes) ≡ None =
    ap (λ (f : Option Fault). first_fault (f ∷ spare ∷ wrong ∷ [])) due.unclosed
    ∙ ap (λ (f : Option Fault). first_fault (f ∷ wrong ∷ [])) has_spare
    ∙ ap (λ (f : Option Fault). first_fault (f ∷ [])) in_turn in
    ap (λ (f : Option Fault). first_fault (f ∷ full ∷ [])) (here ∙ sym there) ∙ refused

some_is : {X : Type 0} {x y : X} → Some x ≡ Some y → x ≡ y
some_is e = cc e

none_some : {X P : Type 0} {x : X} → None ≡ Some x → P
none_some e = cc e

-- so it is after a reply to its forgetting
pub open_next : (sender : Known) (draft : Option Copied) (reply : Reply) → MayBeSubmitted sender draft → MayBeSubmitted sender (open_after draft reply)
open_next sender draft (Refused fault) may copy is = may copy is
open_next sender draft (Answered answer) may copy is = none_some is
open_next sender draft (Forgotten there) may copy is = none_some is
open_next sender draft (Entered place index) may copy is = none_some is
open_next sender draft Closed may copy is = none_some is
open_next sender draft (Decided verdict) may copy is = none_some is
open_next sender draft (Wrote object) may copy is = none_some is
open_next sender draft NoMore may copy is = none_some is
open_next sender draft (Finished number) may copy is = none_some is
open_next sender draft (BackedUp number) may copy is = none_some is
open_next sender draft (EndedBack cause) may copy is = none_some is
open_next sender draft (RanAlone number answers) may copy is = none_some is
open_next sender draft (Folded count) may copy is = none_some is

-- ---- what holds of a session

-- its parts are one session's of this store, and what is open may be submitted
abbrev pub AreOne : Named → TableId → Seen → Known → TransactionView → Type 0
AreOne named board seat sender transaction = (board ≡ named.board)
    × (seat.session ≡ transaction.session)
    × (sender.lane ≡ lane_of named transaction.session)
    × MayBeSubmitted sender transaction.draft
    × (transaction.front.party ≡ Client transaction.session)

-- with another transaction of the same session, by the same party
pub still_one : (named : Named) (board : TableId) (seat : Seen) (sender : Known) (old new : TransactionView)
    → new.session ≡ old.session → new.front.party ≡ old.front.party → MayBeSubmitted sender new.draft → AreOne named board seat sender old → AreOne named board seat sender new
still_one named board seat sender old new session party may held = (
  held.0,
  held.1 ∙ sym session,
  held.2 ∙ ap (lane_of named) (sym session),
  may,
  party ∙ held.4 ∙ ap Client (sym session),
)

-- it writes
pub writes_one : {X Y : Type 0} (named : Named) (board : TableId) (seat : Seen) (sender : Known) (result : Result X Y) (old new : TransactionView) (object : Object) (row : Option Row)
    → OnOk result (new ≡ record old { draft = written old.draft object row }) → OnErr result (new ≡ old) → AreOne named board seat sender old → AreOne named board seat sender new
writes_one named board seat sender (Ok x) old new object row ok err held = subst (AreOne named board seat sender) (sym ok)
    (still_one named board seat sender old (record old { draft = written old.draft object row }) refl refl (written_next sender old.draft object row held.3) held)
writes_one named board seat sender (Err y) old new object row ok err held = subst (AreOne named board seat sender) (sym err) held

-- it sees more of the history
pub sees_one : (named : Named) (board : TableId) (seat : Seen) (sender : Known) (old new : TransactionView)
    → new ≡ record old { front = new.front } → new.front.party ≡ old.front.party → AreOne named board seat sender old → AreOne named board seat sender new
sees_one named board seat sender old new same own held = subst (AreOne named board seat sender) (sym same)
    (still_one named board seat sender old (record old { front = new.front }) refl own held.3 held)

-- and forgets what it read
pub forgets_one : (named : Named) (board : TableId) (seat : Seen) (sender : Known) (old new : TransactionView) (reply : Reply)
    → new ≡ record old { draft = open_after old.draft reply; front = new.front } → new.front.party ≡ old.front.party → AreOne named board seat sender old → AreOne named board seat sender new
forgets_one named board seat sender old new reply left own held = subst (AreOne named board seat sender) (sym left)
    (still_one named board seat sender old (record old { draft = open_after old.draft reply; front = new.front }) refl own (open_next sender old.draft reply held.3) held)

-- none is open then
pub none_one : (named : Named) (board : TableId) (seat : Seen) (sender : Known) (old new : TransactionView)
    → new ≡ record old { draft = None } → AreOne named board seat sender old → AreOne named board seat sender new
none_one named board seat sender old new none held = subst (AreOne named board seat sender) (sym none)
    (still_one named board seat sender old (record old { draft = None }) refl refl (λ copy is. none_some is) held)

-- a transaction that the next number was given
pub next_one : (named : Named) (board : TableId) (seat : Seen) (sender : Known) (old new : TransactionView) (copy : Copied)
    → new ≡ record old { draft = Some copy } → IsNext sender copy → AreOne named board seat sender old → AreOne named board seat sender new
next_one named board seat sender old new copy is next held = subst (AreOne named board seat sender) (sym is)
    (still_one named board seat sender old (record old { draft = Some copy }) refl refl (next_is next) held) where
      next_is : IsNext sender copy → MayBeSubmitted sender (Some copy)
      next_is next other same = subst (IsNext sender) (some_is same) next

absurd_party : {P : Type 0} {m n : ℕ} → Client m ≡ Session n → P
absurd_party e = cc e

client_is : (m n : ℕ) → Client m ≡ Client n → m ≡ n
client_is m n e = cc e

-- the client of a session reads for that session alone
pub same_client : (party : Party) (session other : ℕ) → party ≡ Client session → IsReader party other → other ≡ session
same_client party session other is reader = ⊎_elim
    (λ (reads : party ≡ Session other). absurd_party (sym is ∙ reads))
    (λ (reads : party ≡ Client other). client_is other session (sym reads ∙ is))
    reader

-- a transaction was lent and comes back as one of the same party, so that it is the same session's
pub lent_session : (named : Named) (board : TableId) (seat : Seen) (sender : Known) (old lends came : TransactionView) (draft : Option Copied)
    → lends ≡ record old { draft = draft } → came.front.party ≡ lends.front.party → IsReader came.front.party came.session → AreOne named board seat sender old → came.session ≡ old.session
lent_session named board seat sender old lends came draft is own reader held =
    same_client came.front.party old.session came.session (own ∙ ap (λ (t : TransactionView). t.front.party) is ∙ held.4) reader

pub lent_one : (named : Named) (board : TableId) (seat : Seen) (sender : Known) (old lends came new : TransactionView) (draft none : Option Copied)
    → lends ≡ record old { draft = draft } → came.front.party ≡ lends.front.party → IsReader came.front.party came.session → new ≡ record came { draft = none } → none ≡ None
    → AreOne named board seat sender old → AreOne named board seat sender new
lent_one named board seat sender old lends came new draft none is own reader took empty held =
    still_one named board seat sender old new
    (ap (λ (t : TransactionView). t.session) took ∙ lent_session named board seat sender old lends came draft is own reader held)
    (ap (λ (t : TransactionView). t.front.party) took ∙ own ∙ ap (λ (t : TransactionView). t.front.party) is)
    (subst (MayBeSubmitted sender) (sym (ap (λ (t : TransactionView). t.draft) took ∙ empty)) (λ copy is. none_some is))
    held

-- a request that was refused is open again as it was
pub open_again : (old taken back : TransactionView) (draft : Option Copied) → taken ≡ record old { draft = None } → back ≡ record taken { draft = draft } → draft ≡ old.draft → back ≡ old
open_again old taken back draft took put same =
    put ∙ ap (λ (t : TransactionView). record t { draft = draft }) took ∙ ap (λ (d : Option Copied). record old { draft = d }) same

pub same_one : (named : Named) (board : TableId) (seat : Seen) (old_sender sender : Known) (old new : TransactionView)
    → sender ≡ old_sender → new ≡ old → AreOne named board seat old_sender old → AreOne named board seat sender new
same_one named board seat old_sender sender old new pushed same held =
    subst (λ (k : Known). AreOne named board seat k new) (sym pushed) (subst (AreOne named board seat old_sender) (sym same) held)
