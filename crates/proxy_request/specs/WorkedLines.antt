-- Worked examples: lines and the requests or faults that they give.
use Rattle.std.specs.Prelude.{◌≡◌, codes, Some, None, Ok, Err}
use Rattle.coord_types.specs.declared.steps.Command.TheVariants as command
use Rattle.coord_admin.specs.declared.fault.LineFault.TheVariants.{TooLong, BadJson, BadRequest, UnknownOp}
use Rattle.proxy_request.specs.declared.request.Request.TheVariants.{Order, Confirm, Reset, ResetAt, Show, Watch}
use Rattle.proxy_request.specs.Requests.{asked_by}

pub record WorkedLines : Type 0 where
  pub order : asked_by (Some (codes "{\"op\":\"reset\",\"client\":1,\"number\":1,\"node\":1}")) ≡ Ok (Order 1 1 (command.Reset 1))
  pub confirm : asked_by (Some (codes "{\"op\":\"confirm\",\"node\":3,\"epoch\":7}")) ≡ Ok (Confirm 3 7)
  pub reset : asked_by (Some (codes "{\"node\":64,\"op\":\"reset\"}\r")) ≡ Ok (Reset 64)
  pub reset_at : asked_by (Some (codes "{\"op\":\"reset\",\"epoch\":18446744073709551615,\"node\":3}")) ≡ Ok (ResetAt 3 18446744073709551615)
  pub show : asked_by (Some (codes "{\"op\":\"show\"}")) ≡ Ok Show
  pub watch : asked_by (Some (codes "{\"op\":\"\\u0077atch\"}")) ≡ Ok Watch
  pub watch_of_a_node : asked_by (Some (codes "{\"op\":\"watch\",\"node\":1}")) ≡ Err BadRequest
  pub confirm_without_epoch : asked_by (Some (codes "{\"op\":\"confirm\",\"node\":3}")) ≡ Err BadRequest
  pub reset_of_node_65 : asked_by (Some (codes "{\"op\":\"reset\",\"node\":65}")) ≡ Err BadRequest
  pub client_without_number : asked_by (Some (codes "{\"op\":\"reset\",\"client\":1,\"node\":1}")) ≡ Err BadRequest
  pub add_without_client : asked_by (Some (codes "{\"op\":\"add\",\"node\":1,\"group\":1}")) ≡ Err BadRequest
  pub unknown : asked_by (Some (codes "{\"op\":\"fly\"}")) ≡ Err UnknownOp
  pub no_json : asked_by (Some (codes "fly")) ≡ Err BadJson
  pub too_long : asked_by None ≡ Err TooLong
