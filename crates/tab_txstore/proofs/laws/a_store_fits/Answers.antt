use Rattle.tab_txstore.proofs.FitsLemmas.{fits_next}
use Rattle.tab_txstore.proofs.laws.a_store_fits.Goals as goal

pub returns-clause-next : goal.returns-clause-next
returns-clause-next c = fits_next
