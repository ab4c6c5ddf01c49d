-- The components of a traceable program have names, all different.
use Rattle.std.proofs.Common.{◌<◌, length, map, subst}
use Rattle.std.proofs.lemmas.Simd.{map-map}
use Rattle.std.proofs.lemmas.List.Elements.{All-map, All-weaker}
use Rattle.abc_text.specs.Meanings.{AreDifferent}
use Rattle.abc_trace.specs.WellFormed.{IsNamed}
use Rattle.abc_printed.specs.Parts.{word_at}
use Rattle.abc_traceable.specs.Told.{NamesAreTold}
use Rattle.abc_traceable.proofs.Different.{apart_words}
use Rattle.abc_traceable.proofs.Components.{components_apart}
use Rattle.abc_traceable.proofs.Starting.{components_named}

pub names_are_told : NamesAreTold
names_are_told p able = record {
  named = components_named p able;
  once =
      subst AreDifferent (map-map (word_at p.names) (λ C. C.name) p.components)
      (apart_words p.names able.different (map (λ C. C.name) p.components)
      (All-map (λ n. n.0 < length p.names) (λ C. C.name) p.components
      (All-weaker (λ C. IsNamed p.names C.name) (λ C. C.name.0 < length p.names)
      (λ C h. h.0) p.components (components_named p able)))
      (components_apart p able.checked));
}
