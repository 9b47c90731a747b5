-- What the calls of a story and of its fronts ask for, and what they leave.
use Rattle.std.proofs.Common.{◌≡◌, ℕ, [], sym, ap, ◌∙◌, subst}
use mathlib.Core.Option.{none}
use Rattle.atomic_table.specs.Table.{Me, step, Allows, Splits, Joins}
use Rattle.occ_history.specs.History.{Happened, Session, FrontView, StoryView, clients, lanes, MayAdd}
use Rattle.occ_history.specs.Rule.{Known, Keeps, Sees, Shows, Compares, Spent, one_more, next_front, visitor, kept_by, front_by, other_by, Ruled}
use Rattle.occ_history.specs.Steps.{adds, catches_up, compared}
use Rattle.occ_history.proofs.Kept.{gives_next, gives_visitor, cuts_session, shows, hands_back, adds_event, catches, compares, hands_both, finds}

abbrev Mine : Type 0
Mine = Me (Unit {0}) Known

-- the keeper's pass after a step of his
pub kept_after : (me new : Mine) (was now : StoryView) → me ≡ (Keeps was, []) → new ≡ (Keeps now, me.1) → (new ≡ (Keeps (kept_by new.0), [])) × (kept_by new.0 ≡ now)
kept_after me new was now is moved =
    let e : new ≡ (Keeps now, []) = moved ∙ ap (λ (m : Mine). (Keeps now, m.1)) is in
    (e ∙ ap (λ (m : Mine). (Keeps (kept_by m.0), [])) (sym e), ap (λ (m : Mine). kept_by m.0) e)

-- a pass is that of one front
pub one_front : (me : Mine) (one two : FrontView) → me ≡ (Sees one, []) → me ≡ (Sees two, []) → two ≡ one
one_front me one two is also = ap (λ (m : Mine). front_by m.0) (sym also ∙ is)

pub asks_next : (id : ℕ) (me : Mine) (story : StoryView) → me ≡ (Keeps story, []) → Splits Ruled id me.0 (Keeps (one_more (kept_by me.0))) (Sees (next_front (kept_by me.0)))
asks_next id me story is = subst (λ (m : Mine). Splits Ruled id m.0 (Keeps (one_more (kept_by m.0))) (Sees (next_front (kept_by m.0)))) (sym is) (gives_next id story)

pub asks_visitor : (id : ℕ) (me : Mine) (story : StoryView) → me ≡ (Keeps story, []) → Splits Ruled id me.0 (Keeps (kept_by me.0)) (Sees (visitor (kept_by me.0)))
asks_visitor id me story is = subst (λ (m : Mine). Splits Ruled id m.0 (Keeps (kept_by m.0)) (Sees (visitor (kept_by m.0)))) (sym is) (gives_visitor id story)

pub asks_cut : (id session : ℕ) (me : Mine) (front : FrontView) → me ≡ (Sees front, []) → front.party ≡ Session session
    → Splits Ruled id me.0 (Sees (clients (front_by me.0))) (Sees (lanes (front_by me.0)))
asks_cut id session me front is own = subst (λ (m : Mine). Splits Ruled id m.0 (Sees (clients (front_by m.0))) (Sees (lanes (front_by m.0)))) (sym is) (cuts_session id session front own)

pub asks_shown : (id other : ℕ) (me their : Mine) (story : StoryView) (front : FrontView) → me ≡ (Keeps story, []) → their ≡ (Sees front, [])
    → Joins Ruled id me.0 other their.0 (Shows (kept_by me.0) (front_by their.0)) Spent
asks_shown id other me their story front is also =
    subst (λ (m : Mine). Joins Ruled id m.0 other their.0 (Shows (kept_by m.0) (front_by their.0)) Spent) (sym is)
    (subst (λ (t : Mine). Joins Ruled id (Keeps story) other t.0 (Shows story (front_by t.0)) Spent) (sym also) (shows id other story front))

pub shown_is : (me their new : Mine) (story : StoryView) (front : FrontView) → me ≡ (Keeps story, []) → their ≡ (Sees front, [])
    → new ≡ (Shows (kept_by me.0) (front_by their.0), me.1) → new ≡ (Shows story front, [])
shown_is me their new story front is also moved = moved ∙ (λ i. (Shows (kept_by (is i).0) (front_by (also i).0), (is i).1))

pub asks_add : (slots id : ℕ) (me : Mine) (happened : Happened) (story : StoryView) (front : FrontView) → me ≡ (Shows story front, []) → MayAdd happened front.party
    → Allows Ruled slots id me 0 (λ n. n) (adds happened (step slots 0 0 0 none) me)
asks_add slots id me happened story front is may = subst (λ (m : Mine). Allows Ruled slots id m 0 (λ n. n) (adds happened (step slots 0 0 0 none) m)) (sym is) (adds_event slots id happened story front may)

pub asks_catch : (slots id : ℕ) (me : Mine) (story : StoryView) (front : FrontView) → me ≡ (Shows story front, [])
    → Allows Ruled slots id me 0 (λ n. n) (catches_up (step slots 0 0 0 none) me)
asks_catch slots id me story front is = subst (λ (m : Mine). Allows Ruled slots id m 0 (λ n. n) (catches_up (step slots 0 0 0 none) m)) (sym is) (catches slots id story front)

-- what was shown, as it is after a step
pub still_shown : (me new : Mine) (was now : StoryView) (front seen : FrontView) → me ≡ (Shows was front, []) → new ≡ (Shows now seen, me.1) → new ≡ (Shows now seen, [])
still_shown me new was now front seen is moved = moved ∙ ap (λ (m : Mine). (Shows now seen, m.1)) is

pub asks_back : (id : ℕ) (me : Mine) (story : StoryView) (front : FrontView) → me ≡ (Shows story front, []) → Splits Ruled id me.0 (Keeps (kept_by me.0)) (Sees (front_by me.0))
asks_back id me story front is = subst (λ (m : Mine). Splits Ruled id m.0 (Keeps (kept_by m.0)) (Sees (front_by m.0))) (sym is) (hands_back id story front)

-- the keeper has his pass back, and the front its own
pub back_is : (me new : Mine) (story : StoryView) (front : FrontView) → me ≡ (Shows story front, []) → new ≡ (Keeps (kept_by me.0), me.1)
    → (new ≡ (Keeps (kept_by new.0), [])) × (kept_by new.0 ≡ story)
back_is me new story front is moved =
    let e : new ≡ (Keeps story, []) = moved ∙ ap (λ (m : Mine). (Keeps (kept_by m.0), m.1)) is in
    (e ∙ ap (λ (m : Mine). (Keeps (kept_by m.0), [])) (sym e), ap (λ (m : Mine). kept_by m.0) e)

pub front_back : (me new : Mine) (story : StoryView) (front : FrontView) → me ≡ (Shows story front, []) → new ≡ (Sees (front_by me.0), []) → new ≡ (Sees front, [])
front_back me new story front is moved = moved ∙ ap (λ (m : Mine). (Sees (front_by m.0), [])) is

pub asks_compare : (id other : ℕ) (me their : Mine) (one two : FrontView) → me ≡ (Sees one, []) → their ≡ (Sees two, [])
    → Joins Ruled id me.0 other their.0 (Compares (front_by me.0) (front_by their.0)) Spent
asks_compare id other me their one two is also =
    subst (λ (m : Mine). Joins Ruled id m.0 other their.0 (Compares (front_by m.0) (front_by their.0)) Spent) (sym is)
    (subst (λ (t : Mine). Joins Ruled id (Sees one) other t.0 (Compares one (front_by t.0)) Spent) (sym also) (compares id other one two))

pub compared_is : (me their new : Mine) (one two : FrontView) → me ≡ (Sees one, []) → their ≡ (Sees two, [])
    → new ≡ (Compares (front_by me.0) (front_by their.0), me.1) → new ≡ (Compares one two, [])
compared_is me their new one two is also moved = moved ∙ (λ i. (Compares (front_by (is i).0) (front_by (also i).0), (is i).1))

pub asks_find : (slots id : ℕ) (me : Mine) (one two : FrontView) → me ≡ (Compares one two, []) → Allows Ruled slots id me 0 (λ n. n) (compared (step slots 0 0 0 none) me)
asks_find slots id me one two is = subst (λ (m : Mine). Allows Ruled slots id m 0 (λ n. n) (compared (step slots 0 0 0 none) m)) (sym is) (finds slots id one two)

pub asks_apart : (id : ℕ) (me : Mine) (one two : FrontView) → me ≡ (Compares one two, []) → Splits Ruled id me.0 (Sees (front_by me.0)) (Sees (other_by me.0))
asks_apart id me one two is = subst (λ (m : Mine). Splits Ruled id m.0 (Sees (front_by m.0)) (Sees (other_by m.0))) (sym is) (hands_both id one two)

pub first_back : (me new : Mine) (one two : FrontView) → me ≡ (Compares one two, []) → new ≡ (Sees (front_by me.0), me.1) → new ≡ (Sees one, [])
first_back me new one two is moved = moved ∙ ap (λ (m : Mine). (Sees (front_by m.0), m.1)) is

pub second_back : (me new : Mine) (one two : FrontView) → me ≡ (Compares one two, []) → new ≡ (Sees (other_by me.0), []) → new ≡ (Sees two, [])
second_back me new one two is moved = moved ∙ ap (λ (m : Mine). (Sees (other_by m.0), [])) is

-- a session's pass is its client's now, and the new one its lane's
pub cut_client : (me new : Mine) (front : FrontView) → me ≡ (Sees front, []) → new ≡ (Sees (clients (front_by me.0)), me.1) → new ≡ (Sees (clients front), [])
cut_client me new front is moved = moved ∙ ap (λ (m : Mine). (Sees (clients (front_by m.0)), m.1)) is

pub cut_lane : (me new : Mine) (front : FrontView) → me ≡ (Sees front, []) → new ≡ (Sees (lanes (front_by me.0)), []) → new ≡ (Sees (lanes front), [])
cut_lane me new front is moved = moved ∙ ap (λ (m : Mine). (Sees (lanes (front_by m.0)), [])) is
