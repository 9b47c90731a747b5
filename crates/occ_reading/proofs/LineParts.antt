-- What is read of the parts of a line before it is known that they are tokens.
use Rattle.std.proofs.Common.{◌≡◌, ◌⊎◌, ℕ, Bool, true, false, eqb, List, Some, None, Err, inl, inr, refl, sym, ap, subst, ◌∙◌}
use Rattle.std.specs.List.{list_all, slice_split}
use Rattle.std.specs.Option.{option_map_or}
use Rattle.occ_text.specs.declared.tokens.Unread.{Unread}
use Rattle.occ_text.specs.declared.tokens.Unread.TheVariants.{Malformed, Memory}
use Rattle.occ_text.specs.Reading.{is_token, tokens_of}
use Rattle.occ_text.specs.Fields.{GivesNext, at_end, whole, of_line}
use Rattle.occ_text.proofs.Fields.{untested_field}
use Rattle.occ_reading.proofs.Common.{Field, Gives, IsField, Tokens, cond, is_some, option_and_then, option_map}
use Rattle.occ_reading.specs.RowLines.{line_takes}

abbrev pub parts_of : List ℕ → Tokens
parts_of line = slice_split (λ byte. eqb byte 32) line

-- what is read of the line is read of its parts
of_parts : {Y : Type 0} {field : Field Y} {most : Y → ℕ} (line : List ℕ) (parts : Tokens) → parts ≡ parts_of line → IsField field most → of_line field line ≡ whole field parts
of_parts {field = field} line parts same f = untested_field line f ∙ ap (whole field) (sym same)

-- all parts were read
pub all_read : {Y : Type 0} {field : Field Y} {most : Y → ℕ} (line : List ℕ) (parts : Tokens) (y : Y) (rest : Tokens) → parts ≡ parts_of line → IsField field most
    → field.read parts ≡ Some (y, rest) → at_end rest ≡ Some tt → of_line field line ≡ Some y
all_read {Y = Y} line parts y rest same f read end =
    of_parts line parts same f ∙ ap (option_and_then (λ (x : Y × Tokens). option_map (λ end. x.0) (at_end x.1))) read ∙ ap (option_map (λ end. y)) end

-- some are left
pub some_left : {Y : Type 0} {field : Field Y} {most : Y → ℕ} (line : List ℕ) (parts : Tokens) (y : Y) (rest : Tokens) → parts ≡ parts_of line → IsField field most
    → field.read parts ≡ Some (y, rest) → at_end rest ≡ None → of_line field line ≡ None
some_left {Y = Y} line parts y rest same f read end =
    of_parts line parts same f ∙ ap (option_and_then (λ (x : Y × Tokens). option_map (λ end. x.0) (at_end x.1))) read ∙ ap (option_map (λ end. y)) end

none_read : {Y : Type 0} {field : Field Y} {most : Y → ℕ} (line : List ℕ) (parts : Tokens) → parts ≡ parts_of line → IsField field most → field.read parts ≡ None → of_line field line ≡ None
none_read {Y = Y} line parts same f read = of_parts line parts same f ∙ ap (option_and_then (λ (x : Y × Tokens). option_map (λ end. x.0) (at_end x.1))) read

-- what is told of a line of which something wasn't read
pub unread_gives : {X Y : Type 0} (view : X → Y) {field : Field Y} {most : Y → ℕ} (line : List ℕ) (parts rest : Tokens) (unread told : Unread) → parts ≡ parts_of line → IsField field most
    → GivesNext view (Err unread) (field.read parts) rest → (told ≡ Malformed → (unread ≡ Malformed) ⊎ (tokens_of line ≡ None)) → Gives view (Err told) (of_line field line)
unread_gives view line parts rest Malformed Malformed same f gives tells = none_read line parts same f gives
unread_gives view {field = field} line parts rest Memory Malformed same f gives tells = elim (tells refl) [
  | inl other ↦ absurd cc
  | inr none ↦ ap (option_and_then (whole field)) none
]
unread_gives view line parts rest unread Memory same f gives tells = tt

takes_by : (takes : Tokens → Bool) (parts : Tokens) (b : Bool) → is_some (cond b (Some parts) None) ≡ true → takes parts ≡ true → option_map_or takes (cond b (Some parts) None) false ≡ true
takes_by takes parts true is so = so
takes_by takes parts false is so = absurd cc

-- a want of memory is told of tokens of which the first says that the line takes some
pub unread_takes : (takes : Tokens → Bool) (line : List ℕ) (parts : Tokens) (unread told : Unread) → parts ≡ parts_of line → (told ≡ Memory → (unread ≡ Memory) × (is_some (tokens_of line) ≡ true))
    → (unread ≡ Memory → takes parts ≡ true) → told ≡ Memory → line_takes takes line ≡ true
unfolding tokens_of line_takes
unread_takes takes line parts unread told same tells so is =
    takes_by takes (parts_of line) (list_all is_token (parts_of line)) (tells is).1 (subst (λ (p : Tokens). takes p ≡ true) same (so (tells is).0))
