-- Books that their version has words for are printed.
use Rattle.std.proofs.Common.{◌≡◌, ℕ, Bool, true, false, cond, ◌||◌, List, [], ◌∷◌, map, Option, Some, None, Result, Ok, Err, ◌⊎◌, inl, inr, refl, sym, ap, subst, ◌∙◌}
use Rattle.std.specs.List.{list_any}
use Rattle.std.specs.Result.{IsErrAnd}
use Rattle.occ_types.specs.Schema.{Table, Schema}
use Rattle.occ_model.specs.Log.{LogRow}
use Rattle.occ_text.specs.declared.versions.Version.{Version}
use Rattle.occ_text.specs.declared.versions.Version.TheVariants as versions
use Rattle.occ_text.specs.declared.faults.WriteFault.{WriteFault}
use Rattle.occ_text.specs.declared.faults.WriteFault.TheVariants as write_faults
use Rattle.occ_text.specs.Printing.{PushedFront}
use Rattle.occ_print.specs.declared.ends.BookFault.{BookFault}
use Rattle.occ_print.specs.declared.ends.BookFault.TheVariants.{PairKeys, MissingEnd}
use Rattle.occ_print.specs.Books.{Book, book_text}
use Rattle.occ_print.specs.Ends.{is_pair, some_are_pairs, ranges_have_ends, unworded, lacks_words, book_fault, BookGives}

by_fault : (X : Type 0) (fault : WriteFault) (book : Book) (a b : Option (List ℕ)) (old new : List ℕ) → lacks_words book ≡ None → PushedFront a b old new (book_text book) → BookGives {T = X} (Err (book_fault fault)) book a b old new
by_fault X write_faults.Write book a b old new words h = (words, h)
by_fault X write_faults.Memory book a b old new words h = (words, h)

-- a book that may be printed was begun
pub begun_book : {X : Type 0} (fault : WriteFault) (result : Result X BookFault) (book : Book) (a b : Option (List ℕ)) (old new : List ℕ) → IsErrAnd result (λ e. e ≡ book_fault fault) → lacks_words book ≡ None
    → PushedFront a b old new (book_text book) → BookGives result book a b old new
begun_book fault (Ok x) book a b old new is words h = absurd is
begun_book {X} fault (Err e) book a b old new is words h = subst (λ (f : BookFault). BookGives {T = X} (Err f) book a b old new) (sym is) (by_fault X fault book a b old new words h)

-- ---- books that are refused

-- words are missing for keys or for ends alone
missing : (version : Version) (tables : Schema) (log : List LogRow) (fault : BookFault) → unworded version tables log ≡ Some fault → (fault ≡ PairKeys) ⊎ (fault ≡ MissingEnd)
missing versions.One tables log fault h = by (some_are_pairs tables) (ranges_have_ends log) h
  where
    by : (pairs ends : Bool) → cond pairs (Some PairKeys) (cond ends None (Some MissingEnd)) ≡ Some fault → (fault ≡ PairKeys) ⊎ (fault ≡ MissingEnd)
    by true ends e = inl (cc)
    by false false e = inr (cc)
    by false true e = absurd cc
missing versions.Two tables log fault h = absurd cc

-- all is as it was
pub refused_book : (X : Type 0) (fault : BookFault) (book : Book) (a b : Option (List ℕ)) (old new : List ℕ) → lacks_words book ≡ Some fault → b ≡ a → new ≡ old → BookGives {T = X} (Err fault) book a b old new
refused_book X fault book a b old new h p q = elim (missing book.header.version book.header.tables book.log fault h) [
  | inl is ↦ subst (λ (f : BookFault). BookGives {T = X} (Err f) book a b old new) (sym is) (h ∙ ap Some is, p, q)
  | inr is ↦ subst (λ (f : BookFault). BookGives {T = X} (Err f) book a b old new) (sym is) (h ∙ ap Some is, p, q)
]

-- the tables as the code has them
pub pairs_viewed : {X : Type 0} (view : X → Table) (xs : List X) → some_are_pairs (map view xs) ≡ list_any (λ x. is_pair (view x).key) xs
pairs_viewed view [] = refl
pairs_viewed view (x ∷ xs) = ap (λ b. is_pair (view x).key || b) (pairs_viewed view xs)
