-- What becomes of the workers and of the other sessions of a frame, one after another.
use Rattle.std.proofs.Common.{◌≡◌, ℕ, suc, ◌+◌, ◌-◌, ◌<◌, ◌≤◌, List, [], ◌∷◌, ◌++◌, map, length, get_or, take, drop, refl, sym, ap, subst, ◌∙◌, arith, zero}
use Rattle.std.specs.List.{range_with_len}
use Rattle.std.proofs.lemmas.List.{get_or-map}
use Rattle.std.proofs.lemmas.List.FromFn.{get_or-map-range_with_len, length-map-range_with_len, take-map-range_with_len, map-range_with_len_more}
use Rattle.atomic_table.specs.Seated.{TableId}
use Rattle.occ_types.specs.Schema.{Schema}
use Rattle.boxcar.specs.Table.{Shelves}
use Rattle.occ_model.specs.Log.{Base, last_folded}
use Rattle.occ_model.specs.World.{Settings, World, resumed, next_place}
use Rattle.occ_model.specs.Step.{Run}
use Rattle.occ_board.specs.Rule.{Seated, Posted, fresh}
use Rattle.occ_board.specs.Words.{continued}
use Rattle.occ_queue.specs.Lanes.{Known}
use Rattle.occ_filed.specs.Filed.{Filed}
use Rattle.occ_published.specs.Published.{Published}
use Rattle.occ_published.proofs.Stored.{begun_is_published}
use Rattle.occ_store.proofs.Begun.{begun_itself}
use Rattle.occ_history.specs.History.{Session, Client, Lane, FrontView, StoryView, clients, lanes, nowhere}
use Rattle.occ_history.specs.Rule.{next_front, one_more, visitor}
use Rattle.occ_store.specs.Names.{Named, lane_of, opened_as}
use Rattle.occ_store.specs.Locked.{IsShown, IsVisitor, IsLocked}
use Rattle.occ_store.specs.Sessions.{SessionView}
use Rattle.occ_store.specs.Lanes.{LaneView}
use Rattle.occ_store.specs.Workers.{WorkerView}
use Rattle.occ_store.specs.Frames.{PartView, PlaceView, AreSeats, NumbersHaveRoom, IsPart, AreParts, IsPlace, ArePlaces, IsFrame, named_by, fresh_worker, fresh_session, fresh_lane, workers_from, sessions_from, lanes_from, unseeing, seating}

-- ---- the seats

range_dropped : {X : Type 0} (f : ℕ → X) (from count over : ℕ) → drop over (map f (range_with_len from count)) ≡ map f (range_with_len (from + over) (count - over))
range_dropped f from count zero =
    let same : from ≡ from + zero = omega arith in
    let all : count ≡ count - zero = omega arith in
    (λ i. map f (range_with_len (same i) (all i)))
range_dropped f from zero (suc over) =
    let none : zero - suc over ≡ zero = omega arith in
    ap (λ n. map f (range_with_len (from + suc over) n)) (sym none)
range_dropped f from (suc count) (suc over) =
    let number : from + 1 + over ≡ from + suc over = omega arith in
    let left : count - over ≡ suc count - suc over = omega arith in
    range_dropped f (from + 1) count over ∙ (λ i. map f (range_with_len (number i) (left i)))

-- of the seats of a board, the first ones
pub first_seats : (board : TableId) (seats kept : List Seated) (count sessions : ℕ) → seats ≡ map (fresh board) (range_with_len 1 sessions) → count ≤ sessions → kept ≡ take count seats → AreSeats board 1 kept × (length kept ≡ count)
first_seats board seats kept count sessions are within is =
    let cut : kept ≡ map (fresh board) (range_with_len 1 count) = is ∙ ap (take count) are ∙ take-map-range_with_len (fresh board) 1 sessions count within in
    let many : length kept ≡ count = ap length cut ∙ length-map-range_with_len (fresh board) 1 count in
    (cut ∙ ap (λ n. map (fresh board) (range_with_len 1 n)) (sym many), many)

-- and the others
pub other_seats : (board : TableId) (seats others : List Seated) (count sessions : ℕ) → seats ≡ map (fresh board) (range_with_len 1 sessions) → count ≤ sessions → others ≡ drop count seats
    → AreSeats board (suc count) others × (count + length others ≡ sessions)
other_seats board seats others count sessions are within is =
    let next : 1 + count ≡ suc count = omega arith in
    let cut : others ≡ map (fresh board) (range_with_len (suc count) (sessions - count)) = is ∙ ap (drop count) are ∙ range_dropped (fresh board) 1 sessions count ∙ ap (λ n. map (fresh board) (range_with_len n (sessions - count))) next in
    let many : length others ≡ sessions - count = ap length cut ∙ length-map-range_with_len (fresh board) (suc count) (sessions - count) in
    (cut ∙ ap (λ n. map (fresh board) (range_with_len (suc count) n)) (sym many), omega arith)

-- where the numbers of so many sessions have room, those of fewer have
pub fewer_have_room : (base : Base) (sessions count : ℕ) → NumbersHaveRoom base sessions → count ≤ sessions → NumbersHaveRoom base count
fewer_have_room base sessions count room within session from to = room session from (omega arith)

-- the seat at a place
pub seat_at : (board : TableId) (from : ℕ) (seats : List Seated) (place session : ℕ) (seat : Seated) → AreSeats board from seats → place < length seats → seat ≡ get_or seats place seat → from + place ≡ session
    → seat ≡ fresh board session
seat_at board from seats place session seat are below at number =
    at ∙ ap (λ (l : List Seated). get_or l place seat) are ∙ get_or-map-range_with_len (fresh board) from (length seats) place session seat below number

-- ---- places and parts

-- one place more
pub places_more : (board : TableId) (schema : Schema) (base : Base) (from : ℕ) (places : List PlaceView) (session last : ℕ) (place : PlaceView) → ArePlaces board schema base from places
    → session ≡ from + length places → last ≡ last_folded base session → IsPlace board schema session last place → ArePlaces board schema base from (places ++ place ∷ [])
places_more board schema base from [] session last place are number behind is =
    let here : session ≡ from = omega arith in
    (subst (λ n. IsPlace board schema n (last_folded base n) place) here (subst (λ n. IsPlace board schema session n place) behind is), tt)
places_more board schema base from (first ∷ places) session last place are number behind is = (are.0, places_more board schema base (suc from) places session last place are.1 (omega arith) behind is)

-- one part more
pub parts_more : (board : TableId) (schema : Schema) (base : Base) (from : ℕ) (parts : List PartView) (session last : ℕ) (part : PartView) → AreParts board schema base from parts
    → session ≡ from + length parts → last ≡ last_folded base session → IsPart board schema session last part → AreParts board schema base from (parts ++ part ∷ [])
parts_more board schema base from [] session last part are number behind is =
    let here : session ≡ from = omega arith in
    (subst (λ n. IsPart board schema n (last_folded base n) part) here (subst (λ n. IsPart board schema session n part) behind is), tt)
parts_more board schema base from (first ∷ parts) session last part are number behind is = (are.0, parts_more board schema base (suc from) parts session last part are.1 (omega arith) behind is)

-- the place of a worker, among those from a number on
pub place_at : (board : TableId) (schema : Schema) (base : Base) (from : ℕ) (places : List PlaceView) (at : ℕ) (place : PlaceView) → ArePlaces board schema base from places → at < length places
    → IsPlace board schema (from + at) (last_folded base (from + at)) (get_or places at place)
place_at board schema base from [] at place are below = absurd (omega arith)
place_at board schema base from (first ∷ places) zero place are below = subst (λ n. IsPlace board schema n (last_folded base n) first) (omega arith) are.0
place_at board schema base from (first ∷ places) (suc at) place are below =
    subst (λ n. IsPlace board schema n (last_folded base n) (get_or places at place)) (omega arith) (place_at board schema base (suc from) places at place are.1 (omega arith))

-- the part at a place
pub part_at : (board : TableId) (schema : Schema) (base : Base) (from : ℕ) (parts : List PartView) (at : ℕ) (part : PartView) → AreParts board schema base from parts → at < length parts
    → IsPart board schema (from + at) (last_folded base (from + at)) (get_or parts at part)
part_at board schema base from [] at part are below = absurd (omega arith)
part_at board schema base from (first ∷ parts) zero part are below = subst (λ n. IsPart board schema n (last_folded base n) first) (omega arith) are.0
part_at board schema base from (first ∷ parts) (suc at) part are below =
    subst (λ n. IsPart board schema n (last_folded base n) (get_or parts at part)) (omega arith) (part_at board schema base (suc from) parts at part are.1 (omega arith))

-- its lane
pub lane_at : (parts : List PartView) (place : ℕ) (part : PartView) → place < length parts → part ≡ get_or parts place part
    → get_or (map (λ (p : PartView). p.receiver.lane) parts) place nowhere ≡ part.receiver.lane
lane_at parts place part below at = get_or-map (λ (p : PartView). p.receiver.lane) parts place part nowhere below ∙ ap (λ (p : PartView). p.receiver.lane) (sym at)

-- ---- the story

-- one session more has a front
pub story_more : (before after : StoryView) (sessions : ℕ) → before ≡ seating sessions → after ≡ one_more before → after ≡ seating (sessions + 1)
story_more before after sessions so more = more ∙ ap one_more so

-- ---- a worker of its place

module _ (named : Named) (places : List PlaceView) (are : ArePlaces named.board named.settings.schema named.base 1 places) (at : ℕ) (place : PlaceView) (below : at < length places) (is : place ≡ get_or places at place) where
  its_place : IsPlace named.board named.settings.schema (1 + at) (last_folded named.base (1 + at)) place
  its_place = subst (IsPlace named.board named.settings.schema (1 + at) (last_folded named.base (1 + at))) (sym is) (place_at named.board named.settings.schema named.base 1 places at place are below)

  pub own_place : IsPlace named.board named.settings.schema place.session place.last place
  own_place = subst (λ (n : ℕ × ℕ). IsPlace named.board named.settings.schema n.0 n.1 place) (λ i. (sym its_place.number i, sym its_place.behind i)) its_place

  -- it has the next front of the story
  pub worker_front : (before : StoryView) (front : FrontView) → front ≡ next_front before → before ≡ seating at → front ≡ unseeing (Session place.session)
  worker_front before front next so =
      let number : at + 1 ≡ place.session = (let is = its_place.number in omega arith) in
      next ∙ ap next_front so ∙ ap (λ n. unseeing (Session n)) number

  -- one worker more
  pub workers_more : (before after : List WorkerView) (worker : WorkerView) → before ≡ workers_from named at → worker ≡ fresh_worker named place.session place.last → after ≡ before ++ worker ∷ []
      → after ≡ workers_from named (at + 1)
  workers_more before after worker so fresh pushed =
      let told : worker ≡ fresh_worker named (1 + at) (last_folded named.base (1 + at)) = fresh ∙ (λ i. fresh_worker named (its_place.number i) (its_place.behind i)) in
      pushed ∙ (λ i. so i ++ told i ∷ []) ∙ sym (map-range_with_len_more (λ s. fresh_worker named s (last_folded named.base s)) 1 at (1 + at) refl)

-- ---- a session and its lane, of their part

module _ (named : Named) (parts : List PartView) (are : AreParts named.board named.settings.schema named.base (suc named.workers) parts) (at : ℕ) (part : PartView) (below : at < length parts) (is : part ≡ get_or parts at part) where
  its_part : IsPart named.board named.settings.schema (suc named.workers + at) (last_folded named.base (suc named.workers + at)) part
  its_part = subst (IsPart named.board named.settings.schema (suc named.workers + at) (last_folded named.base (suc named.workers + at))) (sym is)
      (part_at named.board named.settings.schema named.base (suc named.workers) parts at part are below)

  its_last : part.receiver.before ≡ last_folded named.base (suc named.workers + at)
  its_last = ap (λ (k : Known). k.before) its_part.receiver

  pub own_part : IsPart named.board named.settings.schema part.session part.receiver.before part
  own_part = subst (λ (n : ℕ × ℕ). IsPart named.board named.settings.schema n.0 n.1 part) (λ i. (sym its_part.number i, sym its_last i)) its_part

  pub own_lane : named.lanes ≡ map (λ (p : PartView). p.receiver.lane) parts → part.receiver.lane ≡ lane_of named part.session
  own_lane lanes =
      let number_is = its_part.number in
      let back : at ≡ part.session - suc named.workers = omega arith in
      sym (lane_at parts at part below is) ∙ (λ i. get_or (sym lanes i) (back i) nowhere)

  -- its client and its lane have the next front of the story between them
  pub session_front : (before : StoryView) (front : FrontView) → front ≡ next_front before → before ≡ seating (named.workers + at) → front ≡ unseeing (Session part.session)
  session_front before front next so =
      let number : named.workers + at + 1 ≡ part.session = (let is = its_part.number in omega arith) in
      next ∙ ap next_front so ∙ ap (λ n. unseeing (Session n)) number

  pub both_fronts : (before : StoryView) (front : FrontView) (fronts : FrontView × FrontView) → front ≡ next_front before → before ≡ seating (named.workers + at) → fronts ≡ (clients front, lanes front)
      → fronts ≡ (unseeing (Client part.session), unseeing (Lane part.session))
  both_fronts before front fronts next so are_both = are_both ∙ ap (λ (f : FrontView). (clients f, lanes f)) (session_front before front next so)

  -- one session more, and one lane
  pub sessions_more : (before after : List SessionView) (session : SessionView) → before ≡ sessions_from named at → session ≡ fresh_session named part.session part.receiver.before → after ≡ before ++ session ∷ []
      → after ≡ sessions_from named (at + 1)
  sessions_more before after session so fresh pushed =
      let told : session ≡ fresh_session named (suc named.workers + at) (last_folded named.base (suc named.workers + at)) = fresh ∙ (λ i. fresh_session named (its_part.number i) (its_last i)) in
      pushed ∙ (λ i. so i ++ told i ∷ []) ∙ sym (map-range_with_len_more (λ s. fresh_session named s (last_folded named.base s)) (suc named.workers) at (suc named.workers + at) refl)

  pub lanes_more : (before after : List LaneView) (lane : LaneView) → before ≡ lanes_from named at → lane ≡ fresh_lane named part.session part.receiver.before → after ≡ before ++ lane ∷ []
      → after ≡ lanes_from named (at + 1)
  lanes_more before after lane so fresh pushed =
      let told : lane ≡ fresh_lane named (suc named.workers + at) (last_folded named.base (suc named.workers + at)) = fresh ∙ (λ i. fresh_lane named (its_part.number i) (its_last i)) in
      pushed ∙ (λ i. so i ++ told i ∷ []) ∙ sym (map-range_with_len_more (λ s. fresh_lane named s (last_folded named.base s)) (suc named.workers) at (suc named.workers + at) refl)

-- ---- the frame

-- a store that goes on, with its places and parts, makes a frame
pub frame_is : (filed : Filed) (file : Shelves) (before posted : Posted) (places : List PlaceView) (parts : List PartView) (ledger_parts : ℕ) (settings : Settings) (base : Base) (counter : ℕ)
    → filed.world ≡ resumed settings base counter → file ≡ filed.file
    → posted ≡ record before { words = continued filed.world.counter (last_folded filed.world.base) filed.world.settings.sessions } → length places + length parts ≡ settings.sessions
    → ArePlaces before.board settings.schema base 1 places → AreParts before.board settings.schema base (suc (length places)) parts → ledger_parts ≡ settings.sessions → IsFrame filed file posted places parts ledger_parts
frame_is filed file before posted places parts ledger_parts settings base counter world file_is words count hired are ledger =
    let same : settings ≡ filed.world.settings = sym (ap (λ (w : World). w.settings) world) in
    let from : base ≡ filed.world.base = sym (ap (λ (w : World). w.base) world) in
    let board : before.board ≡ posted.board = sym (ap (λ (p : Posted). p.board) words) in
    record {
      begun = begun_itself filed.world settings base counter world;
      shared = file_is;
      words = ap (λ (p : Posted). p.words) words;
      count = count ∙ ap (λ (s : Settings). s.sessions) same;
      places = subst (λ (z : TableId × Settings × Base). ArePlaces z.0 z.1.schema z.2 1 places) (λ i. (board i, same i, from i)) hired;
      parts = subst (λ (z : TableId × Settings × Base). AreParts z.0 z.1.schema z.2 (suc (length places)) parts) (λ i. (board i, same i, from i)) are;
      ledger = ledger ∙ ap (λ (s : Settings). s.sessions) same;
    }

-- of a named frame: what stands behind the lock of its store, its places and parts, and how many there are
module _ (named : Named) (filed : Filed) (handle : Shelves) (posted : Posted) (places : List PlaceView) (parts : List PartView) (cut : ℕ) (is : IsFrame filed handle posted places parts cut)
    (story : TableId) (names : named_by filed posted story places parts ≡ named) where
  frame_shown : (rows : ℕ) → rows ≡ filed.world.base.place → IsShown named filed posted rows
  frame_shown rows before = record {
    published = subst (λ w. Published w posted.words) (sym is.begun)
        (subst (Published (resumed filed.world.settings filed.world.base filed.world.counter)) (sym is.words) (begun_is_published filed.world.settings filed.world.base filed.world.counter));
    settings = ap (λ (n : Named). n.settings) names;
    file = ap (λ (n : Named). n.file) names;
    board = ap (λ (n : Named). n.board) names;
    counted = (let place = ap next_place is.begun in omega arith);
  }

  -- nothing has happened to it yet
  pub frame_begun : filed.world ≡ opened_as named
  frame_begun = is.begun ∙ ap opened_as names

  pub frame_place : filed.world.base.place ≡ next_place (opened_as named)
  frame_place = let same = ap (λ (w : World). w.base.place) frame_begun in omega arith

  pub frame_locked : (rows sessions : ℕ) (seated led : StoryView) (front : FrontView) → rows ≡ filed.world.base.place → seated ≡ seating sessions → led ≡ seated → front ≡ visitor seated
      → IsLocked named filed posted rows led front 0
  frame_locked rows sessions seated led front before so same here = record {
    shown = frame_shown rows before;
    ran = subst (λ (s : StoryView). Run (opened_as named) s.log filed.world) (sym (same ∙ so)) frame_begun;
    here = subst (λ (f : FrontView). IsVisitor f.party 0) (sym here) (tt, refl);
  }

  pub places_named : ArePlaces named.board named.settings.schema named.base 1 places
  places_named = subst (λ (n : Named). ArePlaces n.board n.settings.schema n.base 1 places) names is.places

  pub parts_named : AreParts named.board named.settings.schema named.base (suc named.workers) parts
  parts_named = subst (λ (n : Named). AreParts n.board n.settings.schema n.base (suc n.workers) parts) names is.parts

  pub lanes_named : named.lanes ≡ map (λ (p : PartView). p.receiver.lane) parts
  lanes_named = sym (ap (λ (n : Named). n.lanes) names)

  pub workers_named : length places ≡ named.workers
  workers_named = ap (λ (n : Named). n.workers) names

  pub count_named : length places + length parts ≡ named.settings.sessions
  count_named = is.count ∙ ap (λ (n : Named). n.settings.sessions) names

  pub others_named : length parts ≡ named.settings.sessions - named.workers
  others_named =
      let all = count_named in
      let first = workers_named in
      omega arith

  pub cut_named : cut ≡ named.settings.sessions
  cut_named = is.ledger ∙ ap (λ (n : Named). n.settings.sessions) names
