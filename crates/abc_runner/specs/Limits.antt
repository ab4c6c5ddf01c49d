-- The limits of a call: what is just within each, and what is just past it.
use Rattle.std.specs.Prelude.{◌≡◌, [], ◌∷◌, List, Option, Some, None, codes}
use Rattle.abc_shape.specs.declared.shape.Shape.TheVariants.{Cluster, Ring, Tree}
use Rattle.abc_runner.specs.declared.command.Command.{Command}
use Rattle.abc_runner.specs.declared.command.Command.TheVariants.{Solo, Net, Print, Other}
use Rattle.abc_runner.specs.declared.limits.TheConstants.{MOST_SOURCE, MOST_PRODUCT}
use Rattle.abc_runner.specs.Commands.{Word, command_of}

-- the words `solo LIMIT PICK`
abbrev pub solo : Word → Word → Option Command
solo limit pick = command_of (codes "solo" ∷ limit ∷ pick ∷ [])

-- the word `print` with more words behind it
abbrev pub print : List Word → Option Command
print more = command_of (codes "print" ∷ more)

-- the words `run SHAPE 10 7 4 0`
abbrev pub run_shape : Word → Option Command
run_shape shape =
    command_of
    (codes "run" ∷ shape ∷ codes "10" ∷ codes "7" ∷ codes "4" ∷ codes "0" ∷ [])

-- the words `run ring LIMIT NODES WORKERS PICK`
abbrev pub run : Word → Word → Word → Word → Option Command
run limit nodes workers pick =
    command_of (codes "run" ∷ codes "ring" ∷ limit ∷ nodes ∷ workers ∷ pick ∷ [])

-- the words `gen NUMBER SIZE tree`
abbrev pub gen : Word → Word → Option Command
gen number size = command_of (codes "gen" ∷ number ∷ size ∷ codes "tree" ∷ [])

pub record LimitsOfCommands : Type 0 where
  pub source : MOST_SOURCE ≡ 1048576
  pub product : MOST_PRODUCT ≡ 1000000
  pub least_solo : solo (codes "1") (codes "0") ≡ Some (Solo 1 0)
  pub greatest_solo : solo (codes "100000") (codes "4294967295") ≡ Some (Solo 100000 4294967295)
  pub solo_limit_0 : solo (codes "0") (codes "0") ≡ None
  pub solo_limit_more : solo (codes "100001") (codes "0") ≡ None
  pub solo_pick_more : solo (codes "1") (codes "4294967296") ≡ None
  pub print_alone : print [] ≡ Some Print
  pub print_more : print (codes "1" ∷ []) ≡ None
  pub print_as_solo : print (codes "1" ∷ codes "0" ∷ []) ≡ None
  pub print_written_large : command_of (codes "Print" ∷ []) ≡ None
  pub no_word : command_of [] ≡ None
  pub least_run : run (codes "1") (codes "1") (codes "1") (codes "0") ≡ Some (Net Ring 1 1 1 0)
  pub greatest_run :
      run (codes "100000") (codes "64") (codes "16") (codes "4294967295")
      ≡ Some (Net Ring 100000 64 16 4294967295)
  pub run_cluster : run_shape (codes "cluster") ≡ Some (Net Cluster 10 7 4 0)
  pub run_ring : run_shape (codes "ring") ≡ Some (Net Ring 10 7 4 0)
  pub run_tree : run_shape (codes "tree") ≡ Some (Net Tree 10 7 4 0)
  pub run_star : run_shape (codes "star") ≡ None
  pub run_limit_0 : run (codes "0") (codes "1") (codes "1") (codes "0") ≡ None
  pub run_limit_more : run (codes "100001") (codes "1") (codes "1") (codes "0") ≡ None
  pub run_nodes_0 : run (codes "1") (codes "0") (codes "1") (codes "0") ≡ None
  pub run_nodes_more : run (codes "1") (codes "65") (codes "1") (codes "0") ≡ None
  pub run_workers_0 : run (codes "1") (codes "1") (codes "0") (codes "0") ≡ None
  pub run_workers_more : run (codes "1") (codes "1") (codes "17") (codes "0") ≡ None
  pub run_pick_more : run (codes "1") (codes "1") (codes "1") (codes "4294967296") ≡ None
  pub least_gen : gen (codes "0") (codes "2") ≡ Some Other
  pub greatest_gen : gen (codes "65536") (codes "64") ≡ Some Other
  pub gen_number_more : gen (codes "65537") (codes "2") ≡ None
  pub gen_size_1 : gen (codes "0") (codes "1") ≡ None
  pub gen_size_more : gen (codes "0") (codes "65") ≡ None
