-- What an agent keeps of its asking, read as the table has it.
use Rattle.abc_network.specs.Agents.{Asking, Idle, Waiting, Granted, Shut}
use Rattle.abc_agent.specs.declared.standing.Standing.{Standing}
use Rattle.abc_agent.specs.declared.standing.Standing.TheVariants.{NotAsking, HasAsked}
use Rattle.abc_agent.specs.declared.standing.Standing.TheVariants.{HasNumber, FoundClosed}

abbrev pub asking_of : Standing → Asking
asking_of NotAsking = Idle
asking_of HasAsked = Waiting
asking_of (HasNumber n) = Granted n
asking_of FoundClosed = Shut
