-- The lines of transactions: what is read is spelled so, and what is spelled so is read again.
use Rattle.std.proofs.Common.{◌≡◌, ℕ, ◌^◌, ◌<◌, Bool, true, false, cond, leb, List, ◌∷◌, length, map, Some, None, refl, ap, subst, ◌∙◌, arith}
use Rattle.std.specs.Prelude.{option_and_then, codes}
use Rattle.std.specs.Fmt.{decimal}
use Rattle.std.proofs.lemmas.Bool.{leb-true, le-leb}
use Rattle.std.proofs.lemmas.List.Elements.{All-cons}
use Rattle.occ_types.specs.declared.limits.TheConstants.{MAX_OPERATIONS}
use Rattle.occ_text.specs.declared.versions.Version.{Version}
use Rattle.occ_text.specs.Spelling.{line_text, IsToken, AreTokens}
use Rattle.occ_text.specs.Reading.{Reads, is_token, tokens_of}
use Rattle.occ_text.specs.Fields.{Tokens, next_word, next_number}
use Rattle.occ_text.specs.Operations.{operation_text}
use Rattle.occ_text.specs.OperationReading.{operations_of}
use Rattle.occ_text.proofs.Escapes.{some_is, bind_value}
use Rattle.occ_text.proofs.Fields.{number_field, word-takes, word-again}
use Rattle.occ_text.proofs.Numbers.{some_or_none}
use Rattle.occ_text.proofs.OperationTokens.{operations_take, operations_again, AreTokens-operations}
use Rattle.occ_text.proofs.Spelled.{IsToken-decimal}
use Rattle.occ_text.proofs.TokenLists.{more_tokens}
use Rattle.occ_text.proofs.Words.{IsToken-from_test, tokens_takes, tokens_again}
use Rattle.occ_run.specs.TransactionLines.{Transaction, transaction_tokens, transaction_text, TransactionFits, if_transaction, transaction_of_tokens, transaction_of_line}

if_cases : (p q : Bool) (x transaction : Transaction) → cond p (cond q (Some x) None) None ≡ Some transaction → (p ≡ true) × (q ≡ true) × (x ≡ transaction)
if_cases true true x transaction h = (refl, refl, some_is x transaction h)
if_cases true false x transaction h = absurd cc
if_cases false q x transaction h = absurd cc

-- what was read of some tokens
record Read (version : Version) (sessions : ℕ) (tokens : Tokens) (transaction : Transaction) : Type 0 where
  spelled : tokens ≡ transaction_tokens transaction
  fits : TransactionFits version sessions transaction

tokens_take : (version : Version) (sessions : ℕ) (tokens : Tokens) (transaction : Transaction) → sessions < 2 ^ 64 → transaction_of_tokens version sessions tokens ≡ Some transaction → Read version sessions tokens transaction
unfolding transaction_of_tokens
tokens_take version sessions tokens transaction small h =
    let w = bind_value (next_word (codes "txn") tokens) _ transaction h in
    let s = bind_value (next_number sessions w.0.1) _ transaction w.2 in
    let o = bind_value (operations_of version s.0.1) (if_transaction s.0.0) transaction s.2 in
    let c = if_cases (leb 1 s.0.0) (leb (length o.0) MAX_OPERATIONS) _ transaction o.2 in
    let n = (number_field sessions small).takes w.0.1 s.0 s.1 in
    let all = operations_take version s.0.1 o.0 o.1 in
    subst (Read version sessions tokens) c.2 (record {
      spelled = word-takes (codes "txn") tokens w.0 w.1 ∙ ap (λ (l : Tokens). codes "txn" ∷ l) (n.0 ∙ ap (λ (l : Tokens). decimal s.0.0 ∷ l) all.spelled);
      fits = record { session = record { least_count = leb-true 1 s.0.0 c.0; most_count = n.1 }; some = all.some; few = leb-true (length o.0) MAX_OPERATIONS c.1; each = all.each };
    })

if_again : (version : Version) (sessions : ℕ) (transaction : Transaction) → TransactionFits version sessions transaction → if_transaction transaction.session transaction.operations ≡ Some transaction
if_again version sessions transaction fits = rw (le-leb 1 transaction.session fits.session.least_count, le-leb (length transaction.operations) MAX_OPERATIONS fits.few) refl

tokens_read_again : (version : Version) (sessions : ℕ) (transaction : Transaction) → sessions < 2 ^ 64 → TransactionFits version sessions transaction → transaction_of_tokens version sessions (transaction_tokens transaction) ≡ Some transaction
unfolding transaction_of_tokens
tokens_read_again version sessions transaction small fits =
    let rest = map operation_text transaction.operations in
    ap (option_and_then (λ (w : Unit {0} × Tokens). option_and_then (λ (s : ℕ × Tokens). option_and_then (λ os. if_transaction s.0 os) (operations_of version s.1)) (next_number sessions w.1)))
    (word-again (codes "txn") (decimal transaction.session ∷ rest))
    ∙ ap (option_and_then (λ (s : ℕ × Tokens). option_and_then (λ os. if_transaction s.0 os) (operations_of version s.1))) ((number_field sessions small).again transaction.session rest fits.session.most_count)
    ∙ ap (option_and_then (λ os. if_transaction transaction.session os)) (operations_again version transaction.operations fits.some fits.each)
    ∙ if_again version sessions transaction fits

pub words : (version : Version) (sessions : ℕ) (transaction : Transaction) → sessions < 2 ^ 64 → TransactionFits version sessions transaction → AreTokens (transaction_tokens transaction)
unfolding is_token
words version sessions transaction small fits =
    let most = fits.session.most_count in
    more_tokens (codes "txn") (decimal transaction.session ∷ map operation_text transaction.operations) (IsToken-from_test (codes "txn") refl) (record {
      some = omega arith;
      each = All-cons IsToken (decimal transaction.session) (map operation_text transaction.operations) (IsToken-decimal transaction.session (omega (arith, most, small))) (AreTokens-operations version transaction.operations fits.each);
    })

line_takes : (version : Version) (sessions : ℕ) (line : List ℕ) (transaction : Transaction) → sessions < 2 ^ 64 → transaction_of_line version sessions line ≡ Some transaction → (line ≡ transaction_text transaction) × TransactionFits version sessions transaction
unfolding transaction_of_line
line_takes version sessions line transaction small h =
    let t = bind_value (tokens_of line) (transaction_of_tokens version sessions) transaction h in
    let r = tokens_take version sessions t.0 transaction small t.2 in
    ((tokens_takes line t.0 t.1).0 ∙ ap line_text r.spelled, r.fits)

line_again : (version : Version) (sessions : ℕ) (transaction : Transaction) → sessions < 2 ^ 64 → TransactionFits version sessions transaction → transaction_of_line version sessions (transaction_text transaction) ≡ Some transaction
unfolding transaction_of_line
line_again version sessions transaction small fits =
    ap (option_and_then (transaction_of_tokens version sessions)) (tokens_again (transaction_tokens transaction) (words version sessions transaction small fits)) ∙ tokens_read_again version sessions transaction small fits

-- the reader of transactions is right
pub transaction_reads : (version : Version) (sessions : ℕ) (line : List ℕ) → sessions < 2 ^ 64 → Reads transaction_text (TransactionFits version sessions) line (transaction_of_line version sessions line)
transaction_reads version sessions line small = record {
  found = some_or_none (transaction_of_line version sessions line) (λ transaction. (line ≡ transaction_text transaction) × TransactionFits version sessions transaction) (λ transaction h. line_takes version sessions line transaction small h);
  again = λ transaction fits e. ap (transaction_of_line version sessions) e ∙ line_again version sessions transaction small fits;
}
