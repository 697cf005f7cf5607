-- Worked examples: lines with their requests and replies.
use Rattle.std.specs.Prelude.{◌≡◌, [], ◌∷◌, codes, Some, None, Ok, Err}
use Rattle.coord_types.specs.declared.messages.Mode.TheVariants as mode
use Rattle.coord_types.specs.declared.steps.Command.TheVariants as command
use Rattle.coord_types.specs.declared.steps.Kind.TheVariants.{Started}
use Rattle.coord_types.specs.declared.refusals.Refusal.TheVariants.{OtherGroup}
use Rattle.coord_admin.specs.declared.request.Request.TheVariants.{Order, Show, Resend, Close}
use Rattle.coord_admin.specs.declared.answer.Answer.TheVariants as answer
use Rattle.coord_admin.specs.declared.fault.LineFault.TheVariants.{Unfinished, TooLong, BadText, BadJson, BadRequest, UnknownOp}
use Rattle.coord_admin.specs.Requests.{asked_by}
use Rattle.coord_admin.specs.Replies.{reply_line}

pub record WorkedRequests : Type 0 where
  pub reset : asked_by (Some (codes "{\"op\":\"reset\",\"client\":1,\"number\":1,\"node\":1}")) ≡ Ok (Order 1 1 (command.Reset 1))
  pub join : asked_by (Some (codes "{\"b\":2,\"a\":64,\"number\":7,\"client\":16,\"op\":\"join\"}")) ≡ Ok (Order 16 7 (command.Join 64 2))
  pub confirm : asked_by (Some (codes " {\"op\":\"confirm\",\"client\":1,\"number\":0,\"node\":3,\"epoch\":18446744073709551615}\r")) ≡ Ok (Order 1 0 (command.Confirm 3 18446744073709551615))
  pub show : asked_by (Some (codes "{\"op\":\"show\"}")) ≡ Ok Show
  pub resend : asked_by (Some (codes "{\"op\":\"resend\"}")) ≡ Ok Resend
  pub close : asked_by (Some (codes "{\"op\":\"close\"}")) ≡ Ok Close
  pub repeated_name : asked_by (Some (codes "{\"op\":\"reset\",\"client\":1,\"number\":1,\"node\":1,\"node\":2}")) ≡ Ok (Order 1 1 (command.Reset 2))
  pub too_long : asked_by None ≡ Err TooLong
  pub bad_text : asked_by (Some (255 ∷ [])) ≡ Err BadText
  pub empty : asked_by (Some []) ≡ Err BadJson
  pub unended : asked_by (Some (codes "{")) ≡ Err BadJson
  pub no_object : asked_by (Some (codes "[]")) ≡ Err BadRequest
  pub no_name : asked_by (Some (codes "{\"op\":1}")) ≡ Err BadRequest
  pub unknown_op : asked_by (Some (codes "{\"op\":\"fly\"}")) ≡ Err UnknownOp
  pub one_too_many : asked_by (Some (codes "{\"op\":\"show\",\"x\":1}")) ≡ Err BadRequest
  pub text_number : asked_by (Some (codes "{\"op\":\"reset\",\"client\":1,\"number\":\"1\",\"node\":1}")) ≡ Err BadRequest
  pub negative_number : asked_by (Some (codes "{\"op\":\"reset\",\"client\":1,\"number\":-1,\"node\":1}")) ≡ Err BadRequest
  pub client_17 : asked_by (Some (codes "{\"op\":\"reset\",\"client\":17,\"number\":1,\"node\":1}")) ≡ Err BadRequest

pub record WorkedReplies : Type 0 where
  pub replied : reply_line (answer.Replied (record { step = 4; kind = Started })) ≡ codes "{\"kind\":\"started\",\"step\":4}\n"
  pub refused : reply_line (answer.Refused OtherGroup) ≡ codes "{\"name\":\"OtherGroup\",\"refused\":10}\n"
  pub shown :
      reply_line (answer.Shown (record {
        accepted = 3;
        settled = 3;
        nodes =
            record { node = 1; group = 1; mode = mode.Ready; parent = None; epoch = 0; confirmed = 0 }
            ∷ record { node = 2; group = 1; mode = mode.Converge; parent = Some 1; epoch = 0; confirmed = 0 } ∷ [];
        links = record { a = 1; b = 2; inc = 3 } ∷ [];
      }))
      ≡ codes "{\"accepted\":3,\"links\":[[1,2,3]],\"nodes\":[[1,1,\"ready\",0,0,0],[2,1,\"converge\",1,0,0]],\"settled\":3}\n"
  pub resent : reply_line (answer.Resent 3) ≡ codes "{\"count\":3,\"kind\":\"resent\"}\n"
  pub closed : reply_line answer.Closed ≡ codes "{\"kind\":\"closed\"}\n"
  pub unfinished : reply_line (answer.Faulted Unfinished) ≡ codes "{\"fault\":\"Unfinished\"}\n"
