use Rattle.std.proofs.Common.{refl}
use Rattle.abc_runner.proofs.laws.limits_of_commands.Goals as goal

pub returns : goal.returns
returns c = record {
  source = refl;
  product = refl;
  least_solo = refl;
  greatest_solo = refl;
  solo_limit_0 = refl;
  solo_limit_more = refl;
  solo_pick_more = refl;
  print_alone = refl;
  print_more = refl;
  print_as_solo = refl;
  print_written_large = refl;
  no_word = refl;
  least_run = refl;
  greatest_run = refl;
  run_cluster = refl;
  run_ring = refl;
  run_tree = refl;
  run_star = refl;
  run_limit_0 = refl;
  run_limit_more = refl;
  run_nodes_0 = refl;
  run_nodes_more = refl;
  run_workers_0 = refl;
  run_workers_more = refl;
  run_pick_more = refl;
  least_gen = refl;
  greatest_gen = refl;
  gen_number_more = refl;
  gen_size_1 = refl;
  gen_size_more = refl;
}
