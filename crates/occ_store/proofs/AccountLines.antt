-- Workers that end, and lanes and sessions that end together.
use Rattle.std.proofs.Common.{◌≡◌, ◌≢◌, ℕ, suc, ◌+◌, ◌-◌, ◌≤◌, ◌<◌, Bool, true, false, List, [], ◌∷◌, ◌++◌, length, get_or, take, refl, sym, ap, subst, ◌∙◌, arith, append_assoc}
use Rattle.std.specs.Prelude.{◌==◌, ◌&&◌, if◌then◌else◌, drop, sum_by, Vec}
use Rattle.std.proofs.lemmas.Bool.{eqb-true, eq-eqb}
use Rattle.std.proofs.lemmas.List.Sums.{sum_by-append}
use Rattle.std.proofs.Math.ListN.{drop_of_length-le}
use Rattle.std.proofs.lemmas.List.{drop_more, take_all, take_more, length_push, append-nil, nil_from_length, length-append}
use Rattle.occ_model.proofs.Tests.{and_true}
use Rattle.occ_queue.specs.declared.items.Item as code_item
use Rattle.occ_model.specs.World.{World, next_place}
use Rattle.occ_model.specs.Step.{Run}
use Rattle.occ_history.specs.History.{Happened, FrontView, Begins}
use Rattle.occ_store.specs.Lanes.{LaneView}
use Rattle.occ_store.specs.Names.{Named, opened_as}
use Rattle.occ_store.proofs.RowsCome.{rows_ran}
use Rattle.occ_store.specs.Workers.{WorkerView}
use Rattle.occ_store.specs.Sessions.{SessionView}
use Rattle.occ_store.specs.Accounts.{LineView, IsLine, IsWorkerLine, AreLines, AreAllLines, IsRoom, AreRooms, HasSeen, HaveSeen, IsOfHistory, are_hired, are_numbered, is_complete, end_fault}
use Rattle.occ_types.specs.declared.fault.Fault.{Fault}
use Rattle.occ_types.specs.declared.fault.Fault.TheVariants.{Memory, NoSession}

-- one line more
pub lines_more : (lanes : List LaneView) (sessions : List SessionView) (lines : List LineView) (lane : LaneView) (session : SessionView) (line : LineView)
    → AreLines lanes sessions lines → IsLine lane session line → AreLines (lanes ++ lane ∷ []) (sessions ++ session ∷ []) (lines ++ line ∷ [])
lines_more [] [] [] lane session line are is = (is, tt)
lines_more [] [] (z ∷ zs) lane session line are is = absurd are
lines_more [] (y ∷ ys) [] lane session line are is = absurd are
lines_more [] (y ∷ ys) (z ∷ zs) lane session line are is = absurd are
lines_more (x ∷ xs) [] [] lane session line are is = absurd are
lines_more (x ∷ xs) [] (z ∷ zs) lane session line are is = absurd are
lines_more (x ∷ xs) (y ∷ ys) [] lane session line are is = absurd are
lines_more (x ∷ xs) (y ∷ ys) (z ∷ zs) lane session line are is = (are.0, lines_more xs ys zs lane session line are.1 is)

-- the lane at a place is the first of those that are left
pub first_left : (lanes done left : List LaneView) (lane : LaneView) → lanes ≡ done ++ left → length done < length lanes → lane ≡ get_or lanes (length done) lane
    → (rest : List LaneView) × (left ≡ lane ∷ rest)
first_left lanes done left lane split below at =
    go done left (subst (λ (l : List LaneView). length done < length l) split below) (at ∙ ap (λ (l : List LaneView). get_or l (length done) lane) split)
  where
    go : (d l : List LaneView) → length d < length (d ++ l) → lane ≡ get_or (d ++ l) (length d) lane → (rest : List LaneView) × (l ≡ lane ∷ rest)
    go [] [] b a = absurd (omega arith)
    go [] (x ∷ xs) b a = (xs, ap (λ y. y ∷ xs) (sym a))
    go (x ∷ xs) l b a = go xs l (omega arith) a

module _ {Z : Type 0} where
  -- one room more
  pub rooms_more : (lanes : List LaneView) (sessions : List SessionView) (rooms : List (Vec (code_item.Item Z) Z)) (lane : LaneView) (session : SessionView) (room : Vec (code_item.Item Z) Z)
      → AreRooms lanes sessions rooms → IsRoom lane session room → AreRooms (lanes ++ lane ∷ []) (sessions ++ session ∷ []) (rooms ++ room ∷ [])
  rooms_more [] [] [] lane session room are is = (is, tt)
  rooms_more [] [] (z ∷ zs) lane session room are is = absurd are
  rooms_more [] (y ∷ ys) [] lane session room are is = absurd are
  rooms_more [] (y ∷ ys) (z ∷ zs) lane session room are is = absurd are
  rooms_more (x ∷ xs) [] [] lane session room are is = absurd are
  rooms_more (x ∷ xs) [] (z ∷ zs) lane session room are is = absurd are
  rooms_more (x ∷ xs) (y ∷ ys) [] lane session room are is = absurd are
  rooms_more (x ∷ xs) (y ∷ ys) (z ∷ zs) lane session room are is = (are.0, rooms_more xs ys zs lane session room are.1 is)

  pub rooms_taken : (lanes : List LaneView) (sessions : List SessionView) (rooms after : List (Vec (code_item.Item Z) Z)) (place : ℕ) (lane : LaneView) (session : SessionView) (room : Vec (code_item.Item Z) Z)
      → place < length lanes → place < length sessions → lane ≡ get_or lanes place lane → session ≡ get_or sessions place session
      → AreRooms (take place lanes) (take place sessions) rooms → IsRoom lane session room → after ≡ rooms ++ room ∷ [] → AreRooms (take (place + 1) lanes) (take (place + 1) sessions) after
  rooms_taken lanes sessions rooms after place lane session room in_lanes in_sessions at_lane at_session are is pushed =
      let one : take (place + 1) lanes ≡ take place lanes ++ lane ∷ [] = take_more lanes place lane in_lanes ∙ ap (λ x. take place lanes ++ x ∷ []) (sym at_lane) in
      let two : take (place + 1) sessions ≡ take place sessions ++ session ∷ [] = take_more sessions place session in_sessions ∙ ap (λ x. take place sessions ++ x ∷ []) (sym at_session) in
      subst (λ (l : List LaneView × List SessionView × List (Vec (code_item.Item Z) Z)). AreRooms l.0 l.1 l.2) (λ i. (sym one i, sym two i, sym pushed i))
      (rooms_more (take place lanes) (take place sessions) rooms lane session room are is)

  -- and of all
  pub rooms_all : (lanes : List LaneView) (sessions : List SessionView) (rooms : List (Vec (code_item.Item Z) Z)) (place : ℕ) → length lanes ≤ place → length lanes ≡ length sessions → AreRooms (take place lanes) (take place sessions) rooms
      → AreRooms lanes sessions rooms
  rooms_all lanes sessions rooms place over same are =
      subst (λ (l : List LaneView × List SessionView). AreRooms l.0 l.1 rooms) (λ i. (take_all place lanes over i, take_all place sessions (omega arith) i)) are

  -- where a lane is left, a session and a room are
  pub both_left : (lane : LaneView) (rest : List LaneView) (sessions : List SessionView) (rooms : List (Vec (code_item.Item Z) Z)) → AreRooms (lane ∷ rest) sessions rooms
      → (0 < length sessions) × (0 < length rooms)
  both_left lane rest [] [] are = absurd are
  both_left lane rest [] (r ∷ rs) are = absurd are
  both_left lane rest (s ∷ ss) [] are = absurd are
  both_left lane rest (s ∷ ss) (r ∷ rs) are = (omega arith, omega arith)

not_equal : (a b : ℕ) → a ≢ b → false ≡ (a == b)
not_equal a b other = go (a == b) refl
  where
    go : (x : Bool) → (a == b) ≡ x → false ≡ (a == b)
    go true e = absurd (other (eqb-true a b e))
    go false e = sym e

true_false : true ≡ false → ⊥
true_false e = cc e

-- one number is another one's rest where their sum is the whole
pub same_sum : (workers lanes count : ℕ) → workers ≤ count → (lanes == count - workers) ≡ (workers + lanes == count)
same_sum workers lanes count within = go (lanes == count - workers) refl
  where
    go : (b : Bool) → (lanes == count - workers) ≡ b → (lanes == count - workers) ≡ (workers + lanes == count)
    go true e =
        let rest = eqb-true lanes (count - workers) e in
        e ∙ sym (eq-eqb (workers + lanes) count (omega arith))
    go false e = e ∙ not_equal (workers + lanes) count (λ (whole : workers + lanes ≡ count). true_false (sym (eq-eqb lanes (count - workers) (omega arith)) ∙ e))

pub too_many : (workers lanes count : ℕ) → count < workers → false ≡ (workers + lanes == count)
too_many workers lanes count over = not_equal (workers + lanes) count (λ (whole : workers + lanes ≡ count). absurd (omega arith))

-- of the lanes and sessions from a place on, those at the place come first
from_here : (from : ℕ) (lanes : List LaneView) (sessions : List SessionView) (place : ℕ) (lane : LaneView) (session : SessionView) → place < length lanes → place < length sessions
    → lane ≡ get_or lanes place lane → session ≡ get_or sessions place session
    → are_numbered from (drop place lanes) (drop place sessions) ≡ are_numbered from (lane ∷ drop (place + 1) lanes) (session ∷ drop (place + 1) sessions)
from_here from lanes sessions place lane session in_lanes in_sessions at_lane at_session =
    (λ i. are_numbered from (drop_more lanes place lane in_lanes i) (drop_more sessions place session in_sessions i))
    ∙ (λ i. are_numbered from (sym at_lane i ∷ drop (place + 1) lanes) (sym at_session i ∷ drop (place + 1) sessions))

-- they have their number
module _ (lanes : List LaneView) (sessions : List SessionView) (place from number next : ℕ) (lane : LaneView) (session : SessionView) (have : Bool) (all : Bool) (in_lanes : place < length lanes) (in_sessions : place < length sessions)
    (at_lane : lane ≡ get_or lanes place lane) (at_session : session ≡ get_or sessions place session) (is : have ≡ (lane.session == number && session.session == number))
    (same : number ≡ from) (more : suc from ≡ next) (before : are_numbered from (drop place lanes) (drop place sessions) ≡ all) where
  said : have ≡ (lane.session == from && session.session == from)
  said = is ∙ ap (λ n. lane.session == n && session.session == n) same

  told : (lane.session == from && (session.session == from && are_numbered (suc from) (drop (place + 1) lanes) (drop (place + 1) sessions))) ≡ all
  told = sym (from_here from lanes sessions place lane session in_lanes in_sessions at_lane at_session) ∙ before

  pub numbered_on : have ≡ true → are_numbered next (drop (place + 1) lanes) (drop (place + 1) sessions) ≡ all
  numbered_on so =
      ap (λ n. are_numbered n (drop (place + 1) lanes) (drop (place + 1) sessions)) (sym more)
      ∙ go (lane.session == from) (session.session == from) (are_numbered (suc from) (drop (place + 1) lanes) (drop (place + 1) sessions)) (sym said ∙ so)
      ∙ told
    where
      go : (a b c : Bool) → (a && b) ≡ true → c ≡ (a && (b && c))
      go true true c e = refl
      go true false c e = cc
      go false b c e = cc

  -- one of them has another
  pub numbered_not : have ≡ false → false ≡ all
  numbered_not not = go (lane.session == from) (session.session == from) (are_numbered (suc from) (drop (place + 1) lanes) (drop (place + 1) sessions)) (sym said ∙ not) ∙ told
    where
      go : (a b c : Bool) → (a && b) ≡ false → false ≡ (a && (b && c))
      go true true c e = cc
      go true false c e = refl
      go false b c e = refl

none_left : {X : Type 0} (xs : List X) (place : ℕ) → length xs ≤ place → [] ≡ drop place xs
none_left xs place over = sym (drop_of_length-le xs over)

-- and nothing is left
pub numbered_all : (lanes : List LaneView) (sessions : List SessionView) (place from : ℕ) (all : Bool) → place ≡ length lanes → length lanes ≡ length sessions
    → are_numbered from (drop place lanes) (drop place sessions) ≡ all → true ≡ all
numbered_all lanes sessions place from all end same before =
    (λ i. are_numbered from (none_left lanes place (omega arith) i) (none_left sessions place (omega arith) i)) ∙ before

-- a worker has its number, or another
module _ (workers : List WorkerView) (place number session : ℕ) (worker : WorkerView) (all : Bool) (below : place < length workers) (at : worker ≡ get_or workers place worker) (own : session ≡ worker.session)
    (same : number ≡ suc place) (before : are_hired (suc place) (drop place workers) ≡ all) where
  hired_here : (worker.session == suc place && are_hired (suc (suc place)) (drop (place + 1) workers)) ≡ all
  hired_here = sym (ap (are_hired (suc place)) (drop_more workers place worker below ∙ (λ i. sym at i ∷ drop (place + 1) workers))) ∙ before

  pub hired_on : session ≡ number → are_hired (suc (place + 1)) (drop (place + 1) workers) ≡ all
  hired_on so =
      let next : suc (place + 1) ≡ suc (suc place) = omega arith in
      ap (λ n. are_hired n (drop (place + 1) workers)) next ∙ ap (λ b. b && are_hired (suc (suc place)) (drop (place + 1) workers)) (sym (eq-eqb worker.session (suc place) (sym own ∙ so ∙ same))) ∙ hired_here

  pub hired_not : session ≢ number → false ≡ all
  hired_not not =
      ap (λ b. b && are_hired (suc (suc place)) (drop (place + 1) workers)) (not_equal worker.session (suc place) (λ e. not (own ∙ e ∙ sym same))) ∙ hired_here

pub hired_all : (workers : List WorkerView) (place : ℕ) (all : Bool) → place ≡ length workers → are_hired (suc place) (drop place workers) ≡ all → true ≡ all
hired_all workers place all end before = ap (are_hired (suc place)) (none_left workers place (omega arith)) ∙ before

-- of lanes and sessions that are numbered the first ones have the same number, and the others are numbered too
pub numbered_next : (from : ℕ) (lane : LaneView) (session : SessionView) (lanes : List LaneView) (sessions : List SessionView) → are_numbered from (lane ∷ lanes) (session ∷ sessions) ≡ true
    → (lane.session ≡ session.session) × (are_numbered (suc from) lanes sessions ≡ true)
numbered_next from lane session lanes sessions numbered =
    let first = and_true (lane.session == from) (session.session == from && are_numbered (suc from) lanes sessions) numbered in
    let second = and_true (session.session == from) (are_numbered (suc from) lanes sessions) first.1 in
    (eqb-true lane.session from first.0 ∙ sym (eqb-true session.session from second.0), second.1)

-- ---- whether they are all

module _ (named : Named) (workers : List WorkerView) (lanes : List LaneView) (sessions : List SessionView) where
  -- all have as many as the store has sessions, and are numbered
  pub count_complete : is_complete named workers lanes sessions ≡ true
      → (length workers + length lanes ≡ named.settings.sessions) × (length sessions ≡ length lanes) × (are_numbered (suc (length workers)) lanes sessions ≡ true)
  count_complete complete =
      let first = and_true (length workers + length lanes == named.settings.sessions) (length sessions == length lanes && (are_hired 1 workers && are_numbered (suc (length workers)) lanes sessions)) complete in
      let second = and_true (length sessions == length lanes) (are_hired 1 workers && are_numbered (suc (length workers)) lanes sessions) first.1 in
      let third = and_true (are_hired 1 workers) (are_numbered (suc (length workers)) lanes sessions) second.1 in
      (eqb-true (length workers + length lanes) named.settings.sessions first.0, eqb-true (length sessions) (length lanes) second.0, third.1)

  -- there are too many or too few
  module _ (tested : Bool) (is : tested ≡ (length workers + length lanes == named.settings.sessions)) where
    pub other_count : tested ≡ false → false ≡ is_complete named workers lanes sessions
    other_count not = ap (λ b. b && (length sessions == length lanes && (are_hired 1 workers && are_numbered (suc (length workers)) lanes sessions))) (sym not ∙ is)

    pub same_count : tested ≡ true → length workers + length lanes ≡ named.settings.sessions
    same_count so = eqb-true (length workers + length lanes) named.settings.sessions (sym is ∙ so)

  module _ (same : length workers + length lanes ≡ named.settings.sessions) where
    pub other_sessions : length sessions ≢ length lanes → false ≡ is_complete named workers lanes sessions
    other_sessions other =
        ap (λ b. b && (are_hired 1 workers && are_numbered (suc (length workers)) lanes sessions)) (not_equal (length sessions) (length lanes) other)
        ∙ ap (λ b. b && (length sessions == length lanes && (are_hired 1 workers && are_numbered (suc (length workers)) lanes sessions))) (sym (eq-eqb (length workers + length lanes) named.settings.sessions same))

    -- and where there are as many the numbers decide
    module _ (so : length sessions ≡ length lanes) where
      pub by_numbers : (hired numbered : Bool) → hired ≡ are_hired 1 workers → numbered ≡ are_numbered (suc (length workers)) lanes sessions → (hired && numbered) ≡ is_complete named workers lanes sessions
      by_numbers hired numbered is are =
          (λ i. is i && are i)
          ∙ (λ i. sym (eq-eqb (length workers + length lanes) named.settings.sessions same) i && (sym (eq-eqb (length sessions) (length lanes) so) i && (are_hired 1 workers && are_numbered (suc (length workers)) lanes sessions)))

      pub by_hired : false ≡ are_hired 1 workers → false ≡ is_complete named workers lanes sessions
      by_hired is = ap (λ b. b && are_numbered (suc (length workers)) lanes sessions) is ∙ by_numbers (are_hired 1 workers) (are_numbered (suc (length workers)) lanes sessions) refl refl

  -- whether they were tested as complete
  pub no_session : (tested : Bool) → tested ≡ is_complete named workers lanes sessions → tested ≡ false → NoSession ≡ end_fault named workers lanes sessions
  no_session tested is not = ap (λ b. if b then Memory else NoSession) (sym not ∙ is)

  pub no_memory : (fault : Fault) → is_complete named workers lanes sessions ≡ true → fault ≡ Memory → fault ≡ end_fault named workers lanes sessions
  no_memory fault complete is = is ∙ ap (λ b. if b then Memory else NoSession) (sym complete)

-- ---- workers

-- one line more
pub worker_lines_more : (workers : List WorkerView) (lines : List LineView) (worker : WorkerView) (line : LineView) → AreAllLines workers [] [] lines → IsWorkerLine worker line → AreAllLines (workers ++ worker ∷ []) [] [] (lines ++ line ∷ [])
worker_lines_more [] [] worker line are is = (is, tt)
worker_lines_more [] (y ∷ ys) worker line are is = absurd are
worker_lines_more (x ∷ xs) [] worker line are is = absurd are
worker_lines_more (x ∷ xs) (y ∷ ys) worker line are is = (are.0, worker_lines_more xs ys worker line are.1 is)

-- the lines of the lanes come behind
pub all_lines : (workers : List WorkerView) (lanes : List LaneView) (sessions : List SessionView) (first own : List LineView) → AreAllLines workers [] [] first → AreLines lanes sessions own → AreAllLines workers lanes sessions (first ++ own)
all_lines [] lanes sessions [] own are is = is
all_lines [] lanes sessions (y ∷ ys) own are is = absurd are
all_lines (x ∷ xs) lanes sessions [] own are is = absurd are
all_lines (x ∷ xs) lanes sessions (y ∷ ys) own are is = (are.0, all_lines xs lanes sessions ys own are.1 is)

-- one more has seen a beginning of the history
pub seen_more : {X : Type 0} (front : X → FrontView) (story : List Happened) (before : List X) (x : X) → HaveSeen story front before → HasSeen story (front x) → HaveSeen story front (before ++ x ∷ [])
seen_more front story [] x have has = (has, tt)
seen_more front story (y ∷ ys) x have has = (have.0, seen_more front story ys x have.1 has)

-- who is shown the whole history has seen a beginning of it
pub has_seen : (story : List Happened) (from to front : FrontView) → Begins from to → to ≡ record from { seen = story } → from ≡ front → HasSeen story front
has_seen story from to front begins seen is = subst (HasSeen story) is (subst (λ log. HasSeen log from) (ap (λ (f : FrontView). f.seen) seen) begins)

-- and what was seen of the story that led to the state behind the lock tells whose history it is
pub of_history : (named : Named) (workers : List WorkerView) (lanes : List LaneView) (story : List Happened) (world : World) (entered : ℕ) → Run (opened_as named) story world → entered + next_place (opened_as named) ≡ next_place world
    → HaveSeen story (λ (worker : WorkerView). worker.front) workers → HaveSeen story (λ (lane : LaneView). lane.front) lanes → IsOfHistory named workers lanes entered
of_history named workers lanes story world entered ran counts first second =
    let brought = rows_ran (opened_as named) world story ran in
    record { story = story; world = world; ran = ran; rows = omega arith; workers_saw = first; lanes_saw = second }

-- where there are none, nothing entered
pub of_none : (named : Named) (workers : List WorkerView) (lanes : List LaneView) (entered : ℕ) → length workers ≡ 0 → length lanes ≡ 0 → entered ≡ 0 → IsOfHistory named workers lanes entered
of_none named [] [] entered none nobody is = record { story = []; world = opened_as named; ran = refl; rows = is; workers_saw = tt; lanes_saw = tt }
of_none named (x ∷ xs) lanes entered none nobody is = absurd (omega arith)
of_none named [] (x ∷ xs) entered none nobody is = absurd (omega arith)

-- a sum over one more
pub sum_more : {X : Type 0} (measure : X → ℕ) (before : List X) (x : X) → sum_by measure (before ++ x ∷ []) ≡ sum_by measure before + measure x
sum_more measure before x =
    let one : 0 + measure x ≡ measure x = omega arith in
    sum_by-append measure before (x ∷ []) ∙ ap (λ n. sum_by measure before + n) one

-- what is held of so many counts one more, and its measure
pub counted_more : (now old before one : ℕ) {X : Type 0} (yielded : List X) (x : X) → now ≡ before + one → one ≡ 1 → before ≡ old + length yielded → now ≡ old + length (yielded ++ x ∷ [])
counted_more now old before one yielded x is single so =
    let many = length_push yielded x in
    omega arith

pub measured_more : {X : Type 0} (measure : X → ℕ) (now old before one : ℕ) (yielded : List X) (x : X) → now ≡ before + one → one ≡ measure x → before ≡ old + sum_by measure yielded → now ≡ old + sum_by measure (yielded ++ x ∷ [])
measured_more measure now old before one yielded x is single so =
    let many = sum_more measure yielded x in
    omega arith

-- and over all
pub measured_all : {X : Type 0} (measure : X → ℕ) (now old : ℕ) (yielded all : List X) → now ≡ old + sum_by measure yielded → yielded ≡ all → now ≡ old + sum_by measure all
measured_all measure now old yielded all so same = so ∙ ap (λ l. old + sum_by measure l) same

pub worker_lines_end : (workers yielded : List WorkerView) (lines : List LineView) → AreAllLines yielded [] [] lines → yielded ≡ workers → AreAllLines workers [] [] lines
worker_lines_end workers yielded lines are same = subst (λ (w : List WorkerView). AreAllLines w [] [] lines) same are

-- ---- lanes and sessions together

-- a list that is itself with more behind it has nothing more
nothing_more : (lanes left : List LaneView) → lanes ≡ lanes ++ left → left ≡ []
nothing_more lanes left is =
    let count : length lanes ≡ length lanes + length left = ap length is ∙ length-append lanes left in
    nil_from_length left (omega arith)

module _ {Z : Type 0} where
  nobody : (clients : List SessionView) (rooms : List (Vec (code_item.Item Z) Z)) → AreRooms [] clients rooms → clients ≡ []
  nobody [] rooms are = refl
  nobody (s ∷ ss) [] are = absurd are
  nobody (s ∷ ss) (r ∷ rs) are = absurd are

  -- So far: the lines of the lanes and sessions that ended, behind those that were there, and a room for each that is to come.
  pub record Walked (lanes yielded : List LaneView) (sessions clients : List SessionView) (rooms : List (Vec (code_item.Item Z) Z)) (before lines : List LineView) : Type 0 where
    pub done : List SessionView
    pub left : List LaneView
    pub own : List LineView
    pub next : ℕ
    pub clients_left : sessions ≡ done ++ clients
    pub lanes_left : lanes ≡ yielded ++ left
    pub own_lines : lines ≡ before ++ own
    pub are_lines : AreLines yielded done own
    pub are_rooms : AreRooms left clients rooms
    pub numbered : are_numbered next left clients ≡ true

  pub walk_begins : (from : ℕ) (lanes : List LaneView) (sessions clients : List SessionView) (rooms given : List (Vec (code_item.Item Z) Z)) (before : List LineView) → are_numbered from lanes sessions ≡ true → AreRooms lanes sessions rooms
      → clients ≡ sessions → given ≡ rooms → Walked lanes [] sessions clients given before before
  walk_begins from lanes sessions clients rooms given before numbered are same own =
      subst (λ (l : List SessionView × List (Vec (code_item.Item Z) Z)). Walked lanes [] sessions l.0 l.1 before before) (λ i. (sym same i, sym own i)) (record {
        done = [];
        left = lanes;
        own = [];
        next = from;
        clients_left = refl;
        lanes_left = refl;
        own_lines = sym (append-nil before);
        are_lines = tt;
        are_rooms = are;
        numbered = numbered;
      })

  module _ (lanes yielded : List LaneView) (sessions clients : List SessionView) (rooms : List (Vec (code_item.Item Z) Z)) (before lines : List LineView) (walked : Walked lanes yielded sessions clients rooms before lines)
      (lane : LaneView) (below : length yielded < length lanes) (at : lane ≡ get_or lanes (length yielded) lane) where
    here : (rest : List LaneView) × (walked.left ≡ lane ∷ rest)
    here = first_left lanes yielded walked.left lane walked.lanes_left below at

    here_rooms : AreRooms (lane ∷ here.0) clients rooms
    here_rooms = subst (λ (l : List LaneView). AreRooms l clients rooms) here.1 walked.are_rooms

    here_numbered : are_numbered walked.next (lane ∷ here.0) clients ≡ true
    here_numbered = ap (λ (l : List LaneView). are_numbered walked.next l clients) (sym here.1) ∙ walked.numbered

    -- a session and a room are there
    pub both_here : (0 < length clients) × (0 < length rooms)
    both_here = both_left lane here.0 clients rooms here_rooms

    -- and they are those of the lane
    module _ (session : SessionView) (others : List SessionView) (room : Vec (code_item.Item Z) Z) (spare : List (Vec (code_item.Item Z) Z)) (first : clients ≡ session ∷ others) (next : rooms ≡ room ∷ spare) where
      theirs : IsRoom lane session room × AreRooms here.0 others spare
      theirs = subst (λ (l : List SessionView × List (Vec (code_item.Item Z) Z)). AreRooms (lane ∷ here.0) l.0 l.1) (λ i. (first i, next i)) here_rooms

      both_numbered : (lane.session ≡ session.session) × (are_numbered (suc walked.next) here.0 others ≡ true)
      both_numbered = numbered_next walked.next lane session here.0 others (ap (λ (l : List SessionView). are_numbered walked.next (lane ∷ here.0) l) (sym first) ∙ here_numbered)

      pub own_room : IsRoom lane session room
      own_room = theirs.0

      pub own_session : lane.session ≡ session.session
      own_session = both_numbered.0

      pub walk_on : (line : LineView) (after : List LineView) → IsLine lane session line → after ≡ lines ++ line ∷ [] → Walked lanes (yielded ++ lane ∷ []) sessions others spare before after
      walk_on line after is pushed = record {
        done = walked.done ++ session ∷ [];
        left = here.0;
        own = walked.own ++ line ∷ [];
        next = suc walked.next;
        clients_left = walked.clients_left ∙ ap (λ (l : List SessionView). walked.done ++ l) first ∙ sym (append_assoc walked.done (session ∷ []) others);
        lanes_left = walked.lanes_left ∙ ap (λ (l : List LaneView). yielded ++ l) here.1 ∙ sym (append_assoc yielded (lane ∷ []) here.0);
        own_lines = pushed ∙ ap (λ (l : List LineView). l ++ line ∷ []) walked.own_lines ∙ append_assoc before walked.own (line ∷ []);
        are_lines = lines_more yielded walked.done walked.own lane session line walked.are_lines is;
        are_rooms = theirs.1;
        numbered = both_numbered.1;
      }

  -- all have ended
  pub walk_ends : (lanes yielded : List LaneView) (sessions clients : List SessionView) (rooms : List (Vec (code_item.Item Z) Z)) (before lines : List LineView) → Walked lanes yielded sessions clients rooms before lines
      → yielded ≡ lanes → (own : List LineView) × (lines ≡ before ++ own) × AreLines lanes sessions own
  walk_ends lanes yielded sessions clients rooms before lines walked all =
      let none : walked.left ≡ [] = nothing_more lanes walked.left (walked.lanes_left ∙ ap (λ (l : List LaneView). l ++ walked.left) all) in
      let gone : clients ≡ [] = nobody clients rooms (subst (λ (l : List LaneView). AreRooms l clients rooms) none walked.are_rooms) in
      let whole : sessions ≡ walked.done = walked.clients_left ∙ ap (λ (l : List SessionView). walked.done ++ l) gone ∙ append-nil walked.done in (
        walked.own,
        walked.own_lines,
        subst (λ (l : List LaneView × List SessionView). AreLines l.0 l.1 walked.own) (λ i. (all i, sym whole i)) walked.are_lines,
      )
