-- Worked examples: texts with their rules or faults.
use Rattle.std.specs.Prelude.{◌≡◌, [], ◌∷◌, codes, Some, None, Ok, Err}
use Rattle.proxy_request.specs.declared.op.Op.TheVariants.{Show, Watch, Confirm}
use Rattle.proxy_policy.specs.declared.fault.PolicyFault.TheVariants.{NotToml, BadKey, BadValue}
use Rattle.proxy_policy.specs.Reading.{reading}

pub record GoodTexts : Type 0 where
  pub blank : reading [] ≡ Ok []
  pub look :
      reading (codes "[[allow]]\nprincipals = [\"look\"]\nops = [\"show\", \"watch\"]\n")
      ≡ Ok (record { principals = codes "look" ∷ []; ops = Show ∷ Watch ∷ []; clients = None; nodes = None } ∷ [])
  pub limited :
      reading (codes "[[allow]]\nprincipals = [\"alice\", \"certificate:service 3\"]\nops = [\"confirm\"]\nclients = [1, 16]\nnodes = [64]\n")
      ≡ Ok (record { principals = codes "alice" ∷ codes "certificate:service 3" ∷ []; ops = Confirm ∷ []; clients = Some (1 ∷ 16 ∷ []); nodes = Some (64 ∷ []) } ∷ [])

pub record WrongKeys : Type 0 where
  pub unknown : reading (codes "deny = 1") ≡ Err BadKey
  pub unknown_in_a_rule : reading (codes "[[allow]]\nprincipals = [\"look\"]\nops = [\"show\"]\nuser = \"root\"\n") ≡ Err BadKey
  pub no_ops : reading (codes "[[allow]]\nprincipals = [\"look\"]\n") ≡ Err BadKey

pub record WrongValues : Type 0 where
  pub a_table : reading (codes "[allow]\nprincipals = [\"look\"]\nops = [\"show\"]\n") ≡ Err BadValue
  pub nobody : reading (codes "[[allow]]\nprincipals = []\nops = [\"show\"]\n") ≡ Err BadValue
  pub bad_name : reading (codes "[[allow]]\nprincipals = [\"a b\"]\nops = [\"show\"]\n") ≡ Err BadValue
  pub no_common_name : reading (codes "[[allow]]\nprincipals = [\"certificate:\"]\nops = [\"show\"]\n") ≡ Err BadValue
  pub unknown_op : reading (codes "[[allow]]\nprincipals = [\"look\"]\nops = [\"show\", \"fly\"]\n") ≡ Err BadValue
  pub client_17 : reading (codes "[[allow]]\nprincipals = [\"look\"]\nops = [\"reset\"]\nclients = [17]\n") ≡ Err BadValue
  pub no_nodes : reading (codes "[[allow]]\nprincipals = [\"look\"]\nops = [\"reset\"]\nnodes = []\n") ≡ Err BadValue

pub record WrongTexts : Type 0 where
  pub open_header : reading (codes "[[allow]") ≡ Err NotToml
