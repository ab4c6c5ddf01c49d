use Rattle.abc_grammar_laws.proofs.NamePlaces.{places_are_named}
use Rattle.abc_grammar_laws.proofs.laws.places_are_named.Goals as goal

pub returns : goal.returns
returns c = places_are_named
