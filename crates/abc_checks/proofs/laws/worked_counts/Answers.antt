use Rattle.abc_checks.proofs.WorkedCounts.{pars_are_found, repeats_are_found, widths_are_counted, widths_are_capped, widths_have_a_limit, breadths_are_counted, breadths_are_capped, breadths_have_a_limit, components_have_a_limit}
use Rattle.abc_checks.proofs.laws.worked_counts.Goals as goal

pub returns : goal.returns
returns c = record {
  pars = pars_are_found;
  repeats = repeats_are_found;
  widths = widths_are_counted;
  capped_widths = widths_are_capped;
  width_limit = widths_have_a_limit;
  breadths = breadths_are_counted;
  capped_breadths = breadths_are_capped;
  breadth_limit = breadths_have_a_limit;
  component_limit = components_have_a_limit;
}
