use Rattle.std.proofs.Common.{append_assoc, ◌≡◌, List, ℕ, [], ◌∷◌, ◌++◌, ◌∙◌, length, codes, arith}
use Rattle.std.specs.Prelude.{string_bytes}
use Rattle.std.specs.Fmt.{decimal}
use Rattle.std.proofs.lemmas.Result.{on_ok_weaker}
use Rattle.occ_text.specs.Spelling.{line_text}
use Rattle.occ_sets.specs.LogRows.{standing_of}
use Rattle.occ_print.specs.Books.{standing_text}
use Rattle.occ_print.proofs.lines.row_line.Goals as goal

-- the words of the standing stand behind the numbers
pub returns : goal.returns
returns g c = λ opened.
    let row = c.args.row.now in
    let behind : (words : List ℕ) → string_bytes c.push.new.self ++ words ≡ line_text (
    codes "row"
    ∷ decimal row.place
    ∷ decimal row.session
    ∷ decimal row.number
    ∷ decimal row.start
    ∷ decimal row.finish
    ∷ decimal (length row.reads)
    ∷ decimal (length row.writes)
    ∷ words
    ∷ []) = λ words. simp (c.in_ok-push.ensures.bytes, c.push.ensures.ascii (omega arith), c.in_ok-write_row_head.ensures, append_assoc) in
    on_ok_weaker c.write_standing.result (λ is. is ∙ behind (standing_text (standing_of opened row.standing))) (c.write_standing.ensures opened)
