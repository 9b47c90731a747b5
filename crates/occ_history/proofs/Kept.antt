-- Each step keeps the rule of a story.
use Rattle.std.proofs.Common.{◌≡◌, ◌≢◌, ℕ, zero, suc, ◌+◌, ◌<◌, ◌≤◌, ◌⊎◌, inl, inr, ⊎_elim, Bool, true, false, not, ◌&&◌, ◌||◌, subst₂, List, [], ◌∷◌, ◌++◌, length, set, refl, sym, ap, ◌∙◌, subst, arith}
use Rattle.std.proofs.lemmas.Bool.{eqb-true}
use mathlib.Core.Option.{some, none, some-injective, some-ne-none}
use mathlib.Core.List.{IsPrefix}
use lib.ListN.{get_elem?}
use Rattle.atomic_table.specs.Table.{State, Me, step, keeps, opening, Allows, Splits, Joins}
use Rattle.atomic_table.proofs.Lists.{at_set, set_else}
use Rattle.occ_model.specs.Event.{Event}
use Rattle.occ_model.proofs.Tests.{both_false, or_left, or_right}
use Rattle.occ_history.specs.History.{Happened, Party, Session, Client, Lane, FrontView, StoryView, session_of, is_clients, is_of, mine, clients, lanes, IsWhole, Begins, MayAdd, adding}
use Rattle.occ_history.specs.Rule.{Known, Keeps, Sees, Shows, Compares, Spent, unwritten, one_more, next_front, visitor, kept_by, front_by, other_by, IsOf, IsTrue, keeps_it, owns, IsApart, AreRuled, Ruled}
use Rattle.occ_history.specs.Steps.{adds, catches_up, compared}
use Rattle.occ_history.proofs.Beginnings.{prefix_self, prefix_more, prefix_trans, prefix_either, filter_between, filter_narrow, filter_unkept}

abbrev Mine : Type 0
Mine = Me (Unit {0}) Known

abbrev St : Type 0
St = State (Unit {0}) Known

-- One seat's view is another, and the story with it: that is kept where the new view is true of the new story, and where all that was true and apart from the old view is true and apart from the new one.
replaced : (story next : StoryView) (views : List Known) (seat : ℕ) (old new : Known) → AreRuled story views → get_elem? views seat ≡ some old → IsTrue next new
    → ((known : Known) → IsTrue story known → IsApart old known → IsApart known old → IsTrue next known × IsApart new known × IsApart known new)
    → AreRuled next (set views seat new)
replaced story next views seat old new ruled at is others = record {
  true_of = λ one known there. ⊎_elim
      (λ here. subst (IsTrue next) here.1 is)
      (λ else'. (others known (ruled.true_of one known else'.1) (ruled.apart seat one old known (λ same. else'.0 (sym same)) at else'.1) (ruled.apart one seat known old else'.0 else'.1 at)).0)
      (at_set views seat one new known there);
  apart = λ one two these those differ at_one at_two. ⊎_elim
      (λ here. ⊎_elim
      (λ also. absurd (differ (here.0 ∙ sym also.0)))
      (λ else'. subst (λ k. IsApart k those) here.1
      (others those (ruled.true_of two those else'.1) (ruled.apart seat two old those (λ same. else'.0 (sym same)) at else'.1) (ruled.apart two seat those old else'.0 else'.1 at)).1)
      (at_set views seat two new those at_two))
      (λ else'. ⊎_elim
      (λ here. subst (λ k. IsApart these k) here.1
      (others these (ruled.true_of one these else'.1) (ruled.apart seat one old these (λ same. else'.0 (sym same)) at else'.1) (ruled.apart one seat these old else'.0 else'.1 at)).2)
      (λ also. ruled.apart one two these those differ else'.1 also.1)
      (at_set views seat two new those at_two))
      (at_set views seat one new these at_one);
}

at_end : {A : Type 0} (xs : List A) (x y : A) (i : ℕ) → get_elem? (xs ++ x ∷ []) i ≡ some y → (get_elem? xs i ≡ some y) ⊎ ((i ≡ length xs) × (x ≡ y))
at_end [] x y zero e = inr (refl, some-injective x y e)
at_end [] x y (suc i) e = absurd (some-ne-none y (sym e))
at_end (z ∷ zs) x y zero e = inl e
at_end (z ∷ zs) x y (suc i) e = ⊎_elim (λ l. inl l) (λ r. inr (ap suc r.0, r.1)) (at_end zs x y i e)

-- A seat more.
appended : (story : StoryView) (views : List Known) (new : Known) → AreRuled story views → IsTrue story new
    → ((seat : ℕ) (known : Known) → get_elem? views seat ≡ some known → IsApart new known × IsApart known new)
    → AreRuled story (views ++ new ∷ [])
appended story views new ruled is others = record {
  true_of = λ seat known there. ⊎_elim (λ old. ruled.true_of seat known old) (λ last. subst (IsTrue story) last.1 is) (at_end views new known seat there);
  apart = λ one two these those differ at_one at_two. ⊎_elim
      (λ old. ⊎_elim
      (λ also. ruled.apart one two these those differ old also)
      (λ last. subst (λ k. IsApart these k) last.1 (others one these old).1)
      (at_end views new those two at_two))
      (λ last. ⊎_elim
      (λ old. subst (λ k. IsApart k those) last.1 (others two those old).0)
      (λ also. absurd (differ (last.0 ∙ sym also.0)))
      (at_end views new those two at_two))
      (at_end views new these one at_one);
}

-- A view is cut in two, which are apart, each from the other and from what was apart from the view.
divided : (story next : StoryView) (views : List Known) (seat : ℕ) (old left right : Known) → AreRuled story views → get_elem? views seat ≡ some old → IsTrue next left → IsTrue next right
    → IsApart left right × IsApart right left
    → ((known : Known) → IsTrue story known → IsApart old known → IsApart known old
    → IsTrue next known × IsApart left known × IsApart known left × IsApart right known × IsApart known right)
    → AreRuled next (set views seat left ++ right ∷ [])
divided story next views seat old left right ruled at is_left is_right both others =
    appended next (set views seat left) right
    (replaced story next views seat old left ruled at is_left (λ known is one two. let o = others known is one two in (o.0, o.1, o.2)))
    is_right
    (λ other known there. ⊎_elim
    (λ here. subst (λ k. IsApart right k × IsApart k right) here.1 (both.1, both.0))
    (λ else'. let o = others known (ruled.true_of other known else'.1) (ruled.apart seat other old known (λ same. else'.0 (sym same)) at else'.1) (ruled.apart other seat known old else'.0 else'.1 at) in (o.3, o.4))
    (at_set views seat other left known there))

-- nobody's events
none_owned : (known : Known) → keeps_it known ≡ false → ((event : Event) → owns known event ≡ false) → (other : Known) → IsApart known other × IsApart other known
none_owned known keeps_not owns_not other = (
  record { keeper = λ (e : keeps_it known ≡ true). absurd (clash (keeps_it known) e keeps_not); parties = λ event (e : owns known event ≡ true). absurd (clash (owns known event) e (owns_not event)) },
  record { keeper = λ _. keeps_not; parties = λ event _. owns_not event },
)
  where
    clash : (b : Bool) → b ≡ true → b ≡ false → ⊥
    clash b yes' no' = cc (yes', no')

-- What two seats know together, one of them keeps, and the other is spent.
joined : (story : StoryView) (views : List Known) (seat other : ℕ) (one two both : Known) → AreRuled story views → get_elem? views seat ≡ some one → other ≢ seat
    → get_elem? (set views seat both) other ≡ some two
    → (IsTrue story one → IsTrue story two → IsApart one two → IsApart two one → IsTrue story both)
    → ((known : Known) → IsApart one known → IsApart known one → IsApart two known → IsApart known two → IsApart both known × IsApart known both)
    → AreRuled story (set (set views seat both) other Spent)
joined story views seat other one two both ruled at differ at_other is apart =
    let there : get_elem? views other ≡ some two = sym (set_else views seat other both differ) ∙ at_other in
    let back : seat ≢ other = λ same. differ (sym same) in record {
      true_of = λ k known found. ⊎_elim
          (λ here. subst (IsTrue story) here.1 tt)
          (λ else'. ⊎_elim
          (λ here. subst (IsTrue story) here.1 (is (ruled.true_of seat one at) (ruled.true_of other two there) (ruled.apart seat other one two back at there) (ruled.apart other seat two one differ there at)))
          (λ old. ruled.true_of k known old.1)
          (at_set views seat k both known else'.1))
          (at_set (set views seat both) other k Spent known found);
      apart = λ i j these those differ' at_i at_j. ⊎_elim
          (λ here. subst (λ k. IsApart k those) here.1 (none_owned Spent refl (λ _. refl) those).0)
          (λ i_else. ⊎_elim
          (λ here. subst (λ k. IsApart these k) here.1 (none_owned Spent refl (λ _. refl) these).1)
          (λ j_else. ⊎_elim
          (λ i_here. ⊎_elim
          (λ j_here. absurd (differ' (i_here.0 ∙ sym j_here.0)))
          (λ j_old. subst (λ k. IsApart k those) i_here.1
          (apart those (ruled.apart seat j one those (λ e. j_old.0 (sym e)) at j_old.1) (ruled.apart j seat those one j_old.0 j_old.1 at)
          (ruled.apart other j two those (λ e. j_else.0 (sym e)) there j_old.1) (ruled.apart j other those two j_else.0 j_old.1 there)).0)
          (at_set views seat j both those j_else.1))
          (λ i_old. ⊎_elim
          (λ j_here. subst (λ k. IsApart these k) j_here.1
          (apart these (ruled.apart seat i one these (λ e. i_old.0 (sym e)) at i_old.1) (ruled.apart i seat these one i_old.0 i_old.1 at)
          (ruled.apart other i two these (λ e. i_else.0 (sym e)) there i_old.1) (ruled.apart i other these two i_else.0 i_old.1 there)).1)
          (λ j_old. ruled.apart i j these those differ' i_old.1 j_old.1)
          (at_set views seat j both those j_else.1))
          (at_set views seat i both these i_else.1))
          (at_set (set views seat both) other j Spent those at_j))
          (at_set (set views seat both) other i Spent these at_i);
    }

-- A session more leaves what is true.
more_of : (story : StoryView) (front : FrontView) → IsOf story front → IsOf (one_more story) front
more_of story front is = record { begins = is.begins; whole = is.whole; within = λ event own. let w = is.within event own in let n = w.1 in (w.0, omega arith) }

more_true : (story : StoryView) (known : Known) → keeps_it known ≡ false → IsTrue story known → IsTrue (one_more story) known
more_true story (Keeps kept) no' is = absurd (cc no')
more_true story (Sees front) no' is = more_of story front is
more_true story (Shows kept front) no' is = absurd (cc no')
more_true story (Compares one two) no' is = (more_of story one is.0, more_of story two is.1, is.2)
more_true story Spent no' is = tt

-- what a view owns is of the story's sessions
owned_within : (story : StoryView) (known : Known) → IsTrue story known → (event : Event) → owns known event ≡ true → (0 < session_of event) × (session_of event ≤ story.sessions)
owned_within story (Keeps kept) is event own = absurd (cc own)
owned_within story (Sees front) is event own = is.within event own
owned_within story (Shows kept front) is event own = is.1.within event own
owned_within story (Compares one two) is event own = go (is_of one.party event) refl own
  where
    go : (b : Bool) → is_of one.party event ≡ b → (b || is_of two.party event) ≡ true → (0 < session_of event) × (session_of event ≤ story.sessions)
    go true e h = is.0.within event e
    go false e h = is.1.within event h
owned_within story Spent is event own = absurd (cc own)

-- The next session has a front.
next-apart : (story : StoryView) (known : Known) → IsTrue story known → IsApart (Sees (next_front story)) known × IsApart known (Sees (next_front story))
next-apart story known is = (
  record { keeper = λ (e : false ≡ true). absurd (cc e); parties = λ event own. first event own (owns known event) refl },
  record { keeper = λ _. refl; parties = λ event own. other event own (is_of (Session (story.sessions + 1)) event) refl },
)
  where
    its : (event : Event) → is_of (Session (story.sessions + 1)) event ≡ true → session_of event ≡ story.sessions + 1
    its event own = eqb-true (session_of event) (story.sessions + 1) own

    first : (event : Event) → is_of (Session (story.sessions + 1)) event ≡ true → (b : Bool) → owns known event ≡ b → b ≡ false
    first event own false e = refl
    first event own true e = let w = owned_within story known is event e in let n = w.1 in let s = its event own in absurd (omega arith)

    other : (event : Event) → owns known event ≡ true → (b : Bool) → is_of (Session (story.sessions + 1)) event ≡ b → b ≡ false
    other event own false e = refl
    other event own true e = let w = owned_within story known is event own in let n = w.1 in let s = its event e in absurd (omega arith)

next-is : (story : StoryView) → IsOf (one_more story) (next_front story)
next-is story = record {
  begins = prefix_self story.log;
  whole = refl;
  within = λ event own. let s = eqb-true (session_of event) (story.sessions + 1) own in (omega (arith, s), omega (arith, s));
}

-- who is apart from the keeper keeps nothing
keeps_not : (story : StoryView) (known : Known) → IsApart (Keeps story) known → keeps_it known ≡ false
keeps_not story known apart = apart.keeper refl

-- only whether it keeps, and what it owns, counts for what is apart
same-apart : (these those : Known) → keeps_it these ≡ keeps_it those → ((event : Event) → owns these event ≡ owns those event) → (known : Known) → IsApart these known → IsApart known these
    → IsApart those known × IsApart known those
same-apart these those keeping owning known one two = (
  record { keeper = λ e. one.keeper (keeping ∙ e); parties = λ event e. one.parties event (owning event ∙ e) },
  record { keeper = λ e. sym keeping ∙ two.keeper e; parties = λ event e. sym (owning event) ∙ two.parties event e },
)

pub gives_next : (seat : ℕ) (story : StoryView) → Splits Ruled seat (Keeps story) (Keeps (one_more story)) (Sees (next_front story))
gives_next seat story s ruled at =
    let same : story ≡ ruled.0 = ruled.1.true_of seat (Keeps story) at in
    let ruled' : AreRuled story s.views = subst (λ k. AreRuled k s.views) (sym same) ruled.1 in (
      one_more story,
      divided story (one_more story) s.views seat (Keeps story) (Keeps (one_more story)) (Sees (next_front story)) ruled' at refl (next-is story)
          ((record { keeper = λ _. refl; parties = λ event (e : false ≡ true). absurd (cc e) }, record { keeper = λ (e : false ≡ true). absurd (cc e); parties = λ event _. refl }))
          (λ known is one two.
          let kept = same-apart (Keeps story) (Keeps (one_more story)) refl (λ _. refl) known one two in
          let next = next-apart story known is in
          (more_true story known (keeps_not story known one) is, kept.0, kept.1, next.0, next.1)),
    )

pub gives_visitor : (seat : ℕ) (story : StoryView) → Splits Ruled seat (Keeps story) (Keeps story) (Sees (visitor story))
gives_visitor seat story s ruled at =
    let same : story ≡ ruled.0 = ruled.1.true_of seat (Keeps story) at in
    let ruled' : AreRuled story s.views = subst (λ k. AreRuled k s.views) (sym same) ruled.1 in (
      story,
      divided story story s.views seat (Keeps story) (Keeps story) (Sees (visitor story)) ruled' at refl
          (record { begins = prefix_self story.log; whole = refl; within = λ event (own : false ≡ true). absurd (cc own) })
          (let n = none_owned (Sees (visitor story)) refl (λ _. refl) (Keeps story) in (n.1, n.0))
          (λ known is one two. let n = none_owned (Sees (visitor story)) refl (λ _. refl) known in (is, one, two, n.0, n.1)),
    )

-- a session's client and lane
both-of : (story : StoryView) (party : Party) (wide : Party) (seen : List Happened) → ((event : Event) → is_of party event ≡ true → is_of wide event ≡ true) → IsOf story (record { party = wide; seen = seen })
    → IsOf story (record { party = party; seen = seen })
both-of story party wide seen within is = record {
  begins = is.begins;
  whole = sym (narrow seen) ∙ ap (λ l. mine party l) is.whole ∙ narrow story.log;
  within = λ event own. is.within event (within event own);
}
  where
    narrow : (log : List Happened) → mine party (mine wide log) ≡ mine party log
    narrow log = filter_narrow (λ h. is_of wide h.0) (λ h. is_of party h.0) (λ h. within h.0) log

client-within : (session : ℕ) (event : Event) → is_of (Client session) event ≡ true → is_of (Session session) event ≡ true
client-within session event own = go (is_clients event) own
  where
    go : (b : Bool) → (b && is_of (Session session) event) ≡ true → is_of (Session session) event ≡ true
    go true e = e
    go false e = absurd (cc e)

lane-within : (session : ℕ) (event : Event) → is_of (Lane session) event ≡ true → is_of (Session session) event ≡ true
lane-within session event own = go (is_clients event) own
  where
    go : (b : Bool) → (not b && is_of (Session session) event) ≡ true → is_of (Session session) event ≡ true
    go false e = e
    go true e = absurd (cc e)

-- one event is not both
client-not-lane : (session : ℕ) (event : Event) → is_of (Client session) event ≡ true → is_of (Lane session) event ≡ false
client-not-lane session event own = go (is_clients event) (is_of (Session session) event) own
  where
    go : (b c : Bool) → (b && c) ≡ true → (not b && c) ≡ false
    go true c e = refl
    go false c e = absurd (cc e)

lane-not-client : (session : ℕ) (event : Event) → is_of (Lane session) event ≡ true → is_of (Client session) event ≡ false
lane-not-client session event own = go (is_clients event) (is_of (Session session) event) own
  where
    go : (b c : Bool) → (not b && c) ≡ true → (b && c) ≡ false
    go false c e = refl
    go true c e = absurd (cc e)

-- who owns less is apart from what more was apart from
less-apart : (more less : Known) → keeps_it less ≡ false → ((event : Event) → owns less event ≡ true → owns more event ≡ true) → (known : Known) → IsApart more known → IsApart known more
    → IsApart less known × IsApart known less
less-apart more less keeps_less within known one two = (
  record { keeper = λ e. absurd (cc (e, keeps_less)); parties = λ event own. one.parties event (within event own) },
  record { keeper = λ _. keeps_less; parties = λ event own. go event own (owns less event) refl },
)
  where
    go : (event : Event) → owns known event ≡ true → (b : Bool) → owns less event ≡ b → b ≡ false
    go event own false e = refl
    go event own true e = let w = within event e in let n = two.parties event own in cc (w, n)

pub cuts_session : (seat session : ℕ) (front : FrontView) → front.party ≡ Session session → Splits Ruled seat (Sees front) (Sees (clients front)) (Sees (lanes front))
cuts_session seat session front is =
    subst (λ p. Splits Ruled seat (Sees (record { party = p; seen = front.seen })) (Sees (clients (record { party = p; seen = front.seen }))) (Sees (lanes (record { party = p; seen = front.seen })))) (sym is)
    (cut seat session front.seen)
  where
    cut : (seat session : ℕ) (seen : List Happened)
        → Splits Ruled seat (Sees (record { party = Session session; seen = seen })) (Sees (record { party = Client session; seen = seen })) (Sees (record { party = Lane session; seen = seen }))
    cut seat session seen s ruled at =
        let whole : Known = Sees (record { party = Session session; seen = seen }) in
        let client : Known = Sees (record { party = Client session; seen = seen }) in
        let lane : Known = Sees (record { party = Lane session; seen = seen }) in
        let true_of : IsOf ruled.0 (record { party = Session session; seen = seen }) = ruled.1.true_of seat whole at in (
          ruled.0,
          divided ruled.0 ruled.0 s.views seat whole client lane ruled.1 at
              (both-of ruled.0 (Client session) (Session session) seen (client-within session) true_of)
              (both-of ruled.0 (Lane session) (Session session) seen (lane-within session) true_of)
              (record { keeper = λ _. refl; parties = client-not-lane session }, record { keeper = λ _. refl; parties = lane-not-client session })
              (λ known is one two.
              let c = less-apart whole client refl (client-within session) known one two in
              let l = less-apart whole lane refl (lane-within session) known one two in
              (is, c.0, c.1, l.0, l.1)),
        )

-- The keeper takes in a front that is shown, and hands it back.
pub shows : (seat other : ℕ) (story : StoryView) (front : FrontView) → Joins Ruled seat (Keeps story) other (Sees front) (Shows story front) Spent
shows seat other story front s ruled at differ at_other = (
  ruled.0,
  joined ruled.0 s.views seat other (Keeps story) (Sees front) (Shows story front) ruled.1 at differ at_other
      (λ kept seen _ _. (kept, seen))
      (λ known one two three four. (
        record { keeper = one.keeper; parties = three.parties },
        record { keeper = two.keeper; parties = four.parties },
      )),
)

pub hands_back : (seat : ℕ) (story : StoryView) (front : FrontView) → Splits Ruled seat (Shows story front) (Keeps story) (Sees front)
hands_back seat story front s ruled at =
    let is : IsTrue ruled.0 (Shows story front) = ruled.1.true_of seat (Shows story front) at in (
      ruled.0,
      divided ruled.0 ruled.0 s.views seat (Shows story front) (Keeps story) (Sees front) ruled.1 at is.0 is.1
          (record { keeper = λ _. refl; parties = λ event (e : false ≡ true). absurd (cc e) }, record { keeper = λ (e : false ≡ true). absurd (cc e); parties = λ event _. refl })
          (λ known known_is one two. (
            known_is,
            record { keeper = one.keeper; parties = λ event (e : false ≡ true). absurd (cc e) },
            record { keeper = two.keeper; parties = λ event _. refl },
            record { keeper = λ (e : false ≡ true). absurd (cc e); parties = one.parties },
            record { keeper = λ _. refl; parties = two.parties },
          )),
    )

-- An event is added: who is apart from whom it belongs to still has all of his own.
still-of : (story : StoryView) (happened : Happened) (front : FrontView) → is_of front.party happened.0 ≡ false → IsOf story front
    → IsOf (record story { log = story.log ++ happened ∷ [] }) front
still-of story happened front not_own is = record {
  begins = prefix_trans front.seen story.log (story.log ++ happened ∷ []) is.begins (prefix_more story.log (happened ∷ []));
  whole = is.whole ∙ sym (filter_unkept (λ h. is_of front.party h.0) story.log happened not_own);
  within = is.within;
}

still-true : (story : StoryView) (happened : Happened) (known : Known) → keeps_it known ≡ false → owns known happened.0 ≡ false → IsTrue story known
    → IsTrue (record story { log = story.log ++ happened ∷ [] }) known
still-true story happened (Keeps kept) keeps_none not_own is = absurd (cc keeps_none)
still-true story happened (Sees front) keeps_none not_own is = still-of story happened front not_own is
still-true story happened (Shows kept front) keeps_none not_own is = absurd (cc keeps_none)
still-true story happened (Compares one two) keeps_none not_own is = (
  still-of story happened one (first (is_of one.party happened.0) (is_of two.party happened.0) not_own) is.0,
  still-of story happened two (second (is_of one.party happened.0) (is_of two.party happened.0) not_own) is.1,
  is.2,
)
  where
    first : (b c : Bool) → (b || c) ≡ false → b ≡ false
    first false c e = refl
    first true c e = absurd (cc e)

    second : (b c : Bool) → (b || c) ≡ false → c ≡ false
    second false c e = e
    second true c e = absurd (cc e)
still-true story happened Spent keeps_none not_own is = tt

-- what may be added is nobody's else
not-theirs : (story : StoryView) (happened : Happened) (front : FrontView) (known : Known) → MayAdd happened front.party → IsTrue story known → IsApart (Shows story front) known
    → owns known happened.0 ≡ false
not-theirs story happened front known may is apart = ⊎_elim
    (λ nobodys. go nobodys (owns known happened.0) refl)
    (λ own. apart.parties happened.0 own)
    may.1
  where
    go : session_of happened.0 ≡ 0 → (b : Bool) → owns known happened.0 ≡ b → b ≡ false
    go nobody false e = refl
    go nobody true e = let w = owned_within story known is happened.0 e in let positive = w.0 in absurd (omega arith)

same-story : (a b : StoryView) (front : FrontView) (other : FrontView) → Shows a front ≡ Shows b other → a ≡ b
same-story a b front other e = ap kept_by e

same-front : (a b : StoryView) (front : FrontView) (other : FrontView) → Shows a front ≡ Shows b other → front ≡ other
same-front a b front other e = ap front_by e

-- what a seat knows, and holds
abbrev knows : Known → Mine
knows known = (known, [])

pub adds_event : (slots seat : ℕ) (happened : Happened) (story : StoryView) (front : FrontView) → MayAdd happened front.party
    → Allows Ruled slots seat (Shows story front, []) 0 (λ n. n) (adds happened (step slots 0 0 0 none) (Shows story front, []))
adds_event slots seat happened story front may s ruled _ at _ =
    let is : IsTrue ruled.0 (Shows story front) = ruled.1.true_of seat (Shows story front) at in
    let kept : AreRuled story s.views = subst (λ k. AreRuled k s.views) (sym is.0) ruled.1 in
    let fronts : IsOf story front = subst (λ k. IsOf k front) (sym is.0) is.1 in
    let next : StoryView = record story { log = story.log ++ happened ∷ [] } in
    let new : FrontView = adding front story.log happened in (
      Shows next new,
      keeps,
      tt,
      (
        next,
        replaced story next s.views seat (Shows story front) (Shows next new) kept at
            (refl, record { begins = prefix_self next.log; whole = refl; within = fronts.within })
            (λ known known_is one two.
            let same = same-apart (Shows story front) (Shows next new) refl (λ _. refl) known one two in
            (still-true story happened known (one.keeper refl) (not-theirs story happened front known may known_is one) known_is, same.0, same.1)),
      ),
      λ other_story other_front same.
          let story_same = same-story story other_story front other_front same in
          let front_same = same-front story other_story front other_front same in (
            subst₂ (λ (k : StoryView) (f : FrontView). IsPrefix f.seen k.log) story_same front_same fronts.begins,
            subst₂ (λ (k : StoryView) (f : FrontView). IsWhole f k.log) story_same front_same fronts.whole,
            λ i. knows (Shows (record (story_same i) { log = (story_same i).log ++ happened ∷ [] }) (adding (front_same i) (story_same i).log happened)),
          ),
    )

pub catches : (slots seat : ℕ) (story : StoryView) (front : FrontView)
    → Allows Ruled slots seat (Shows story front, []) 0 (λ n. n) (catches_up (step slots 0 0 0 none) (Shows story front, []))
catches slots seat story front s ruled _ at _ =
    let is : IsTrue ruled.0 (Shows story front) = ruled.1.true_of seat (Shows story front) at in
    let kept : AreRuled story s.views = subst (λ k. AreRuled k s.views) (sym is.0) ruled.1 in
    let fronts : IsOf story front = subst (λ k. IsOf k front) (sym is.0) is.1 in
    let new : FrontView = record front { seen = story.log } in (
      Shows story new,
      keeps,
      tt,
      (
        story,
        replaced story story s.views seat (Shows story front) (Shows story new) kept at
            (refl, record { begins = prefix_self story.log; whole = refl; within = fronts.within })
            (λ known known_is one two.
            let same = same-apart (Shows story front) (Shows story new) refl (λ _. refl) known one two in
            (known_is, same.0, same.1)),
      ),
      λ other_story other_front same.
          let story_same = same-story story other_story front other_front same in
          let front_same = same-front story other_story front other_front same in (
            subst₂ (λ (k : StoryView) (f : FrontView). IsPrefix f.seen k.log) story_same front_same fronts.begins,
            subst₂ (λ (k : StoryView) (f : FrontView). IsWhole f k.log) story_same front_same fronts.whole,
            λ i. knows (Shows (story_same i) (record (front_same i) { seen = (story_same i).log })),
          ),
    )

-- Two fronts side by side.
pub compares : (seat other : ℕ) (one two : FrontView) → Joins Ruled seat (Sees one) other (Sees two) (Compares one two) Spent
compares seat other one two s ruled at differ at_other = (
  ruled.0,
  joined ruled.0 s.views seat other (Sees one) (Sees two) (Compares one two) ruled.1 at differ at_other
      (λ first second there back. (first, second, record { first = there.parties; second = back.parties }))
      (λ known first second third fourth. (
        record { keeper = λ (e : false ≡ true). absurd (cc e); parties = λ event own. either event own first third (is_of one.party event) refl },
        record { keeper = λ _. refl; parties = λ event own. both_false (is_of one.party event) (is_of two.party event) (second.parties event own) (fourth.parties event own) },
      )),
)
  where
    either : {known : Known} (event : Event) → (is_of one.party event || is_of two.party event) ≡ true → IsApart (Sees one) known → IsApart (Sees two) known → (b : Bool) → is_of one.party event ≡ b
        → owns known event ≡ false
    either event own first third true e = first.parties event e
    either event own first third false e = third.parties event (ap (λ b. b || is_of two.party event) (sym e) ∙ own)

pub hands_both : (seat : ℕ) (one two : FrontView) → Splits Ruled seat (Compares one two) (Sees one) (Sees two)
hands_both seat one two s ruled at =
    let is : IsTrue ruled.0 (Compares one two) = ruled.1.true_of seat (Compares one two) at in (
      ruled.0,
      divided ruled.0 ruled.0 s.views seat (Compares one two) (Sees one) (Sees two) ruled.1 at is.0 is.1
          (record { keeper = λ _. refl; parties = is.2.first }, record { keeper = λ _. refl; parties = is.2.second })
          (λ known known_is a b.
          let l = less-apart (Compares one two) (Sees one) refl (λ event own. or_left (is_of one.party event) (is_of two.party event) own) known a b in
          let r = less-apart (Compares one two) (Sees two) refl (λ event own. or_right (is_of one.party event) (is_of two.party event) own) known a b in
          (known_is, l.0, l.1, r.0, r.1)),
    )

-- of two fronts, each a beginning of one history, one begins the other
side-by-side : (story : StoryView) (one two : FrontView) → IsOf story one → IsOf story two → Begins one two ⊎ Begins two one
side-by-side story one two first second = ⊎_elim
    (λ p. inl (p, filter_between (λ h. is_of one.party h.0) one.seen two.seen story.log p second.begins first.whole))
    (λ p. inr (p, filter_between (λ h. is_of two.party h.0) two.seen one.seen story.log p first.begins second.whole))
    (prefix_either one.seen two.seen story.log first.begins second.begins)

pub finds : (slots seat : ℕ) (one two : FrontView) → Allows Ruled slots seat (Compares one two, []) 0 (λ n. n) (compared (step slots 0 0 0 none) (Compares one two, []))
finds slots seat one two s ruled _ at _ =
    let is : IsTrue ruled.0 (Compares one two) = ruled.1.true_of seat (Compares one two) at in (
      Compares one two,
      keeps,
      tt,
      (ruled.0, replaced ruled.0 ruled.0 s.views seat (Compares one two) (Compares one two) ruled.1 at is (λ known known_is a b. (known_is, a, b))),
      λ first second same. (
        subst₂ (λ f g. Begins f g ⊎ Begins g f) (ap front_by same) (ap other_by same) (side-by-side ruled.0 one two is.0 is.1),
        refl,
      ),
    )

-- the story as it is made
pub begins : (words : List ℕ) → Ruled (opening words [] (Keeps unwritten))
begins words = (
  unwritten,
  record {
    true_of = λ seat known there. only seat known there;
    apart = λ one two these those differ at_one at_two. absurd (differ (first one these at_one ∙ sym (first two those at_two)));
  },
)
  where
    only : (seat : ℕ) (known : Known) → get_elem? (Keeps unwritten ∷ []) seat ≡ some known → IsTrue unwritten known
    only zero known there = subst (IsTrue unwritten) (some-injective (Keeps unwritten) known there) refl
    only (suc n) known there = absurd (some-ne-none known (sym there))

    first : (seat : ℕ) (known : Known) → get_elem? (Keeps unwritten ∷ []) seat ≡ some known → seat ≡ 0
    first zero known there = refl
    first (suc n) known there = absurd (some-ne-none known (sym there))
