use Rattle.occ_reading.proofs.BookLaws.{book_never_stops}
use Rattle.occ_reading.proofs.laws.no_text_of_a_book_is_malformed.Goals as goal

pub returns : goal.returns
returns c = book_never_stops
