use Rattle.std.proofs.Common.{inl, inr}
use Rattle.abc_shape.specs.Routes.{direct}
use Rattle.abc_shape.proofs.routes.route.Goals as goal

pub returns-in-Cluster : goal.returns-in-Cluster
returns-in-Cluster c =
    direct (c.agent_number.ensures.down (λ other. elim c.in-Cluster.is [ inl e ↦ absurd (other e) | inr e ↦ c.requires.home_in_a_ring e ]))
