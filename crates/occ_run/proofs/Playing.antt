-- What all transactions of a session come to, and all clients of a run.
use Rattle.std.proofs.Common.{◌≡◌, ℕ, suc, ◌+◌, ◌<◌, ◌≤◌, Bool, true, false, cond, List, [], ◌∷◌, ◌++◌, length, map, take, get_or, Result, Ok, Err, refl, sym, ap, subst, ◌∙◌, append_assoc, arith}
use Rattle.std.specs.Prelude.{◌==◌, All, IfOk}
use Rattle.std.specs.List.{flat_map, range_with_len}
use Rattle.std.proofs.lemmas.List.{append-nil, map-append, take_more}
use Rattle.std.proofs.lemmas.List.Concat.{flat_map-append}
use Rattle.std.proofs.lemmas.List.Elements.{All-same, All-map}
use Rattle.occ_model.specs.Event.{Item, Close}
use Rattle.occ_model.specs.Log.{last_folded}
use Rattle.occ_model.specs.Operations.{Operation}
use Rattle.occ_history.specs.History.{Happened, Party, FrontView, Client, Begins, mine}
use Rattle.occ_history.proofs.Beginnings.{prefix_self, prefix_trans}
use Rattle.occ_store.specs.Accounts.{HasSeen}
use Rattle.occ_store.specs.Sessions.{SessionView, due, handed_in}
use Rattle.occ_store.specs.Names.{Named}
use Rattle.occ_store.specs.Frames.{unseeing, fresh_session, sessions_from}
use Rattle.occ_run.specs.Plans.{Planned}
use Rattle.occ_run.specs.declared.ends.Stop.{Stop}
use Rattle.occ_run.specs.declared.ends.Stop.TheVariants as stops
use Rattle.occ_run.specs.declared.ends.End.{End}
use Rattle.occ_run.specs.declared.ends.End.TheVariants as ends
use Rattle.occ_run.specs.Clients.{PlanGives, own_plan, own, one_if, Plays, Played, IsFresh, HasPlayed, EndsAs, ended_by, PlayedIn, AllPlayed}
use Rattle.occ_run.proofs.Tries.{pushes_then}

-- ---- one transaction after another

pub nothing_played : (named : Named) (retries : ℕ) (v : SessionView) → Played named retries [] 0 v v
nothing_played named retries v = record { items = []; pushes = record { before = refl; pushed = sym (append-nil v.sender.pushed); session = refl }; plays = (refl, refl, refl) }

one_played : (named : Named) (retries : ℕ) (operations : List Operation) (refused : Bool) (old new : SessionView) → PlanGives named retries operations refused old new → Played named retries (operations ∷ []) (one_if refused) old new
one_played named retries operations refused old new h = record {
  items = h.items;
  pushes = h.pushes;
  plays = (refused, h.items, 0, [], new.front, h.hands_in, (refl, refl, refl), omega arith, sym (append-nil h.items));
}

-- a transaction of another session
pub not_own : (named : Named) (retries session : ℕ) (plan : Planned) (test : Bool) (v : SessionView) → test ≡ (plan.session == session) → test ≡ false → Played named retries (own_plan session plan) (one_if false) v v
not_own named retries session plan test v is fails = subst (λ (b : Bool). Played named retries (cond b (plan.operations ∷ []) []) 0 v v) (sym (sym is ∙ fails)) (nothing_played named retries v)

-- a transaction of the session
pub own_played : (named : Named) (retries session : ℕ) (plan : Planned) (test refused : Bool) (old new : SessionView) → test ≡ (plan.session == session) → test ≡ true → PlanGives named retries plan.operations refused old new
    → Played named retries (own_plan session plan) (one_if refused) old new
own_played named retries session plan test refused old new is holds h =
    subst (λ (b : Bool). Played named retries (cond b (plan.operations ∷ []) []) (one_if refused) old new) (sym (sym is ∙ holds)) (one_played named retries plan.operations refused old new h)

plays_append : (named : Named) (retries session : ℕ) (xs ys : List (List Operation)) (r s : ℕ) (is js : List Item) (from between to : FrontView) → Plays named retries session xs r is from between → Plays named retries session ys s js between to
    → Plays named retries session (xs ++ ys) (r + s) (is ++ js) from to
plays_append named retries session [] ys r s is js from between to h k =
    let none : r ≡ 0 = h.0 in
    let all : s ≡ r + s = omega arith in
    let here : Plays named retries session ys s js from to = subst (λ (f : FrontView). Plays named retries session ys s js f to) h.2 k in
    subst (λ (n : ℕ). Plays named retries session ys n (is ++ js) from to) all (subst (λ (l : List Item). Plays named retries session ys s (l ++ js) from to) (sym h.1) here)
plays_append named retries session (x ∷ xs) ys r s is js from between to h k =
    let all : r ≡ one_if h.0 + h.2 = h.7 in
    let more : r + s ≡ one_if h.0 + (h.2 + s) = omega arith in
    (h.0, h.1, h.2 + s, h.3 ++ js, h.4, h.5, plays_append named retries session xs ys h.2 s h.3 js h.4 between to h.6 k, more, ap (λ (l : List Item). l ++ js) h.8 ∙ append_assoc h.1 h.3 js)

played_then : (named : Named) (retries : ℕ) (xs ys : List (List Operation)) (r s : ℕ) (a b c : SessionView) → Played named retries xs r a b → Played named retries ys s b c → Played named retries (xs ++ ys) (r + s) a c
played_then named retries xs ys r s a b c h k = record {
  items = h.items ++ k.items;
  pushes = pushes_then a b c h.pushes k.pushes;
  plays = plays_append named retries a.session xs ys r s h.items k.items a.front b.front c.front h.plays (subst (λ (n : ℕ). Plays named retries n ys s k.items b.front c.front) h.pushes.session k.plays);
}

-- a transaction of the session is run
pub own_run : (named : Named) (retries own_retries session : ℕ) (plan : Planned) (shown : List Operation) (test : Bool) (result : Result Bool Stop) (old new : SessionView) → retries ≡ own_retries → shown ≡ plan.operations → test ≡ (plan.session == session) → test ≡ true
    → IfOk result (λ refused. PlanGives named retries shown refused old new) → IfOk result (λ refused. Played named own_retries (own_plan session plan) (one_if refused) old new)
own_run named retries own_retries session plan shown test (Ok refused) old new same whole is holds h =
    own_played named own_retries session plan test refused old new is holds
    (subst (λ (n : ℕ). PlanGives named n plan.operations refused old new) same (subst (λ (l : List Operation). PlanGives named retries l refused old new) whole h))
own_run named retries own_retries session plan shown test (Err stop) old new same whole is holds h = tt

-- one transaction more
pub played_more : {X : Type 0} (view : X → Planned) (named : Named) (retries session number : ℕ) (xs : List X) (i : ℕ) (x : X) (refused now : ℕ) (was : Bool) (a b c : SessionView) → i < length xs → x ≡ get_or xs i x → number ≡ session
    → Played named retries (own session (map view (take i xs))) refused a b → Played named retries (own_plan number (view x)) (one_if was) b c → now ≡ refused + one_if was
    → Played named retries (own session (map view (take (i + 1) xs))) now a c
played_more view named retries session number xs i x refused now was a b c lt is same h k count =
    let all : own session (map view (take (i + 1) xs)) ≡ own session (map view (take i xs)) ++ own_plan session (view x) =
    ap (λ l. own session (map view l)) (take_more xs i x lt ∙ ap (λ y. take i xs ++ y ∷ []) (sym is)) ∙ ap (own session) (map-append view (take i xs) (x ∷ []))
    ∙ flat_map-append (own_plan session) (map view (take i xs)) (view x ∷ []) ∙ ap (λ l. own session (map view (take i xs)) ++ l) (append-nil (own_plan session (view x))) in
    let here : Played named retries (own_plan session (view x)) (one_if was) b c = subst (λ (n : ℕ). Played named retries (own_plan n (view x)) (one_if was) b c) same k in
    subst (λ (n : ℕ). Played named retries (own session (map view (take (i + 1) xs))) n a c) (sym count)
    (subst (λ (l : List (List Operation)). Played named retries l (refused + one_if was) a c) (sym all) (played_then named retries (own session (map view (take i xs))) (own_plan session (view x)) refused (one_if was) a b c h here))

pub counted_few : (refused now index : ℕ) (was : Bool) → refused ≤ index → now ≡ refused + one_if was → now ≤ index + 1
counted_few refused now index true few count = omega arith
counted_few refused now index false few count = omega arith

-- the same transactions, said otherwise
pub played_same : {named : Named} {retries : ℕ} (xs ys : List (List Operation)) (refused : ℕ) (a b : SessionView) → xs ≡ ys → Played named retries xs refused a b → Played named retries ys refused a b
played_same {named} {retries} xs ys refused a b same h = subst (λ (l : List (List Operation)). Played named retries l refused a b) same h

pub each_played : (named : Named) (retries session : ℕ) (shown plans : List Planned) (result : Result ℕ Stop) (a b : SessionView) → shown ≡ plans → IfOk result (λ refused. Played named retries (own session shown) refused a b) → IfOk result (λ refused. Played named retries (own session plans) refused a b)
each_played named retries session shown plans result a b same h = subst (λ (l : List Planned). IfOk result (λ refused. Played named retries (own session l) refused a b)) same h

-- ---- the whole of a session

-- the closing mark was handed in
pub closes : (old mid new : SessionView) (number : ℕ) → mid ≡ old → (number ≡ due mid) × (new ≡ handed_in mid (Close number)) → new ≡ handed_in old (Close (due old))
closes old mid new number same h = h.1 ∙ ap (λ (n : ℕ). handed_in mid (Close n)) h.0 ∙ ap (λ (v : SessionView). handed_in v (Close (due v))) same

-- a fresh session plays its transactions, and is closed
pub has_played : (named : Named) (retries : ℕ) (plans : List Planned) (refused : ℕ) (old mid new : SessionView) → IsFresh old → Played named retries (own old.session plans) refused old mid → new ≡ handed_in mid (Close (due mid))
    → HasPlayed named retries plans new.session refused new.sender.pushed new.front
has_played named retries plans refused old mid new fresh h closed =
    let same : old.session ≡ new.session = sym (ap (λ (v : SessionView). v.session) closed ∙ h.pushes.session) in
    let seen : mid.front ≡ new.front = sym (ap (λ (v : SessionView). v.front) closed) in
    let begins : Plays named retries old.session (own old.session plans) refused h.items (unseeing (Client old.session)) mid.front = subst (λ (f : FrontView). Plays named retries old.session (own old.session plans) refused h.items f mid.front) fresh.1 h.plays in
    record {
      items = h.items;
      number = due mid;
      plays = subst (λ (f : FrontView). Plays named retries new.session (own new.session plans) refused h.items (unseeing (Client new.session)) f) seen
          (subst (λ (n : ℕ). Plays named retries n (own n plans) refused h.items (unseeing (Client n)) mid.front) same begins);
      closed = ap (λ (v : SessionView). v.sender.pushed) closed ∙ ap (λ (l : List Item). l ++ Close (due mid) ∷ []) (h.pushes.pushed ∙ ap (λ (l : List Item). l ++ h.items) fresh.0);
    }

begins_self : (front : FrontView) → Begins front front
begins_self front = (prefix_self front.seen, refl)

begins_on : (one two three : FrontView) → two.party ≡ one.party → Begins one two → Begins two three → Begins one three
begins_on one two three same first second =
    (prefix_trans one.seen two.seen three.seen first.0 second.0, first.1 ∙ subst (λ (p : Party). mine p two.seen ≡ mine p three.seen) same second.1)

-- how it ended, by what stopped it
pub ends_as : (named : Named) (retries : ℕ) (plans : List Planned) (played : Result ℕ Stop) (both : End × ℕ) (v : SessionView) → both ≡ ended_by played → IfOk played (λ refused. HasPlayed named retries plans v.session refused v.sender.pushed v.front)
    → EndsAs named retries plans both.0 both.1 v
ends_as named retries plans played both v is h = subst (λ (p : End × ℕ). EndsAs named retries plans p.0 p.1 v) (sym is) (by played h)
  where
    by : (played : Result ℕ Stop) → IfOk played (λ refused. HasPlayed named retries plans v.session refused v.sender.pushed v.front) → EndsAs named retries plans (ended_by played).0 (ended_by played).1 v
    by (Ok refused) h = (v.front, refl, begins_self v.front, h)
    by (Err stops.Patience) h = tt
    by (Err stops.Memory) h = tt

pub unstarted_is_fresh : (named : Named) (retries : ℕ) (plans : List Planned) (end : End) (refused : ℕ) (v : SessionView) → EndsAs named retries plans end refused v → end ≡ ends.Unstarted → IsFresh v
unstarted_is_fresh named retries plans end refused v h is = subst (λ (e : End). EndsAs named retries plans e refused v) is h

abbrev caught_up : SessionView → List Happened → SessionView
caught_up v story = record v { front = record v.front { seen = story } }

-- it ended so also where its session has seen more since
pub ended_still : (named : Named) (retries : ℕ) (plans : List Planned) (end : End) (refused : ℕ) (story : List Happened) (old new : SessionView) → EndsAs named retries plans end refused old → end ≡ ends.Closed → new ≡ caught_up old story → Begins old.front new.front
    → EndsAs named retries plans end refused new
ended_still named retries plans end refused story old new h is same begins =
    let closed = subst (λ (e : End). EndsAs named retries plans e refused old) is h in
    subst (λ (e : End). EndsAs named retries plans e refused new) (sym is) (
      closed.0,
      ap (λ (v : SessionView). v.front.party) same ∙ closed.1,
      begins_on closed.0 old.front new.front closed.1 closed.2 begins,
      subst (λ (v : SessionView). HasPlayed named retries plans v.session refused v.sender.pushed closed.0) (sym same) closed.3,
    )

-- what it has seen then is the history in which it played
pub closed_has_played : (named : Named) (retries : ℕ) (plans : List Planned) (end : End) (refused session : ℕ) (story : List Happened) (old new : SessionView) → EndsAs named retries plans end refused old → end ≡ ends.Closed → old.session ≡ session → new ≡ caught_up old story → Begins old.front new.front
    → PlayedIn named retries plans story session refused
closed_has_played named retries plans end refused session story old new h is own same begins =
    let closed = subst (λ (e : End). EndsAs named retries plans e refused old) is h in (
      old.sender.pushed,
      closed.0,
      subst (λ (s : List Happened). HasSeen s closed.0) (ap (λ (v : SessionView). v.front.seen) same) (begins_on closed.0 old.front new.front closed.1 closed.2 begins),
      subst (λ (n : ℕ). HasPlayed named retries plans n refused old.sender.pushed closed.0) own closed.3,
    )

-- ---- of all sessions

played_by : (named : Named) (retries : ℕ) (plans : List Planned) (story : List Happened) (session other x : ℕ) → session ≡ other → PlayedIn named retries plans story session x → PlayedIn named retries plans story other x
played_by named retries plans story session other x same h = subst (λ (n : ℕ). PlayedIn named retries plans story n x) same h

-- one session more
all_more : (named : Named) (retries : ℕ) (plans : List Planned) (story : List Happened) (from : ℕ) (xs : List ℕ) (x : ℕ) → AllPlayed named retries plans story from xs → PlayedIn named retries plans story (from + length xs) x → AllPlayed named retries plans story from (xs ++ x ∷ [])
all_more named retries plans story from [] x all h = (played_by named retries plans story _ from x (omega arith) h, tt)
all_more named retries plans story from (y ∷ ys) x all h = (all.0, all_more named retries plans story (suc from) ys x all.1 (played_by named retries plans story _ (suc from + length ys) x (omega arith) h))

pub all_so_far : (named : Named) (retries : ℕ) (plans : List Planned) (story : List Happened) (xs now : List ℕ) (x place : ℕ) → now ≡ xs ++ x ∷ [] → length xs ≡ place → AllPlayed named retries plans story 1 xs → PlayedIn named retries plans story (place + 1) x
    → AllPlayed named retries plans story 1 now
all_so_far named retries plans story xs now x place is count all h =
    subst (λ (l : List ℕ). AllPlayed named retries plans story 1 l) (sym is) (all_more named retries plans story 1 xs x all (played_by named retries plans story (place + 1) (1 + length xs) x (omega arith) h))

pub none_yet : (named : Named) (retries : ℕ) (plans : List Planned) (story : List Happened) (xs : List ℕ) → xs ≡ [] → AllPlayed named retries plans story 1 xs
none_yet named retries plans story xs is = subst (λ (l : List ℕ). AllPlayed named retries plans story 1 l) (sym is) tt

-- what one value more gives
pub gathered_more : {X Y : Type 0} (f : X → List Y) (xs : List X) (i : ℕ) (x : X) (before now : List Y) (given : List Y) → i < length xs → x ≡ get_or xs i x → before ≡ flat_map f (take i xs) → now ≡ before ++ given → given ≡ f x → now ≡ flat_map f (take (i + 1) xs)
gathered_more f xs i x before now given lt is so_far more is_it =
    let all : flat_map f (take (i + 1) xs) ≡ flat_map f (take i xs) ++ f x =
    ap (flat_map f) (take_more xs i x lt ∙ ap (λ y. take i xs ++ y ∷ []) (sym is)) ∙ flat_map-append f (take i xs) (x ∷ []) ∙ ap (λ l. flat_map f (take i xs) ++ l) (append-nil (f x)) in
    more ∙ ap (λ l. l ++ given) so_far ∙ ap (λ l. flat_map f (take i xs) ++ l) is_it ∙ sym all

-- ---- sessions out of which nothing came yet

pub fresh_at : (xs : List SessionView) (place : ℕ) (x : SessionView) → place < length xs → x ≡ get_or xs place x → All IsFresh xs → IsFresh x
fresh_at xs place x lt is all = subst IsFresh (sym is) (all place x lt)

pub all_fresh : (named : Named) (count : ℕ) (xs : List SessionView) → xs ≡ sessions_from named count → All IsFresh xs
all_fresh named count xs is =
    All-same IsFresh xs (sessions_from named count) is
    (All-map IsFresh (λ session. fresh_session named session (last_folded named.base session)) (range_with_len (suc named.workers) count) (λ place d lt. (refl, refl)))
