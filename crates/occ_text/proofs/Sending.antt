-- What several writes send together.
use Rattle.std.proofs.Common.{◌≡◌, ℕ, ◌+◌, ◌≤◌, List, [], ◌++◌, length, take, drop, refl, sym, ap, subst, ◌∙◌, append_assoc, take-append-drop}
use Rattle.std.proofs.lemmas.List.{append-nil, drop-drop, drop-append-le}
use Rattle.std.proofs.KnownBytes.{Appends-nil, Appends-trans, Appends-kept}
use Rattle.std.specs.declared.option.Option.{Option}
use Rattle.std.specs.Io.KnownBytes.{Appends, Keeps}
use Rattle.occ_text.specs.Sending.{Sends}

-- before the first write nothing is sent
pub Sends-none : (a : Option (List ℕ)) (bytes : List ℕ) → Sends a a bytes bytes
Sends-none a bytes = record { sent = []; written = Appends-nil a; whole = refl }

-- one more write takes a front of what is held
pub Sends-more : (a b c : Option (List ℕ)) (bytes held : List ℕ) (n : ℕ) → Sends a b bytes held → Appends b c (take n held) → Sends a c bytes (drop n held)
Sends-more a b c bytes held n h w = record {
  sent = h.sent ++ take n held;
  written = Appends-trans a b c h.sent (take n held) h.written w;
  whole = h.whole ∙ ap (λ (l : List ℕ). h.sent ++ l) (sym (take-append-drop n held)) ∙ sym (append_assoc h.sent (take n held) (drop n held));
}

-- the same, where places in the bytes are counted
pub Sends-on : (a b c : Option (List ℕ)) (bytes all : List ℕ) (m n : ℕ) → Sends a b bytes (drop m all) → Appends b c (take n (drop m all)) → Sends a c bytes (drop (m + n) all)
Sends-on a b c bytes all m n h w = subst (Sends a c bytes) (drop-drop n m all) (Sends-more a b c bytes (drop m all) n h w)

-- a write that failed sent nothing
pub Sends-kept : (a b c : Option (List ℕ)) (bytes held : List ℕ) → Sends a b bytes held → Keeps b c → Sends a c bytes held
Sends-kept a b c bytes held h k = record { sent = h.sent; written = Appends-kept a b c h.sent h.written k; whole = h.whole }

-- what is held grows at its end
pub held_more : (sent : ℕ) (text bytes old new : List ℕ) → sent ≤ length text → drop sent text ≡ old → new ≡ text ++ bytes → drop sent new ≡ old ++ bytes
held_more sent text bytes old new within was is = ap (drop sent) is ∙ drop-append-le sent text bytes within ∙ ap (λ (l : List ℕ). l ++ bytes) was

-- what is held back without a write
pub Sends-held : (a : Option (List ℕ)) (bytes held : List ℕ) → held ≡ bytes → Sends a a bytes held
Sends-held a bytes held e = subst (Sends a a bytes) (sym e) (Sends-none a bytes)

-- where all was sent, nothing is held back
pub Sends-all : (a b : Option (List ℕ)) (bytes held : List ℕ) → Appends a b bytes → held ≡ [] → Sends a b bytes held
Sends-all a b bytes held w none = record { sent = bytes; written = w; whole = sym (append-nil bytes) ∙ ap (λ (l : List ℕ). bytes ++ l) (sym none) }

-- where all was sent, and the writer failed behind it, nothing is held back
pub Sends-unflushed : (a b c : Option (List ℕ)) (bytes sent held : List ℕ) → held ≡ sent → Appends a b bytes → sent ≡ [] → Keeps b c → Sends a c bytes held
Sends-unflushed a b c bytes sent held same w none k = Sends-kept a b c bytes held (Sends-all a b bytes held w (same ∙ none)) k
