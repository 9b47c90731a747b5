use Rattle.occ_reading.proofs.CoreBooks.{core_book_fits}
use Rattle.occ_reading.proofs.laws.the_book_of_a_core_fits_where_it_has_words.Goals as goal

pub returns : goal.returns
returns c = core_book_fits
