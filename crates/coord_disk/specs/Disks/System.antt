-- A file of the operating system. It claims no model.
use Rattle.std.specs.Prelude.{◌≡◌, true, false, []}
use Rattle.coord_disk.specs.Model.DiskModel.{DiskModel, IsModel}
use Rattle.coord_disk.specs.Model.Present.{IsImage, whole}

pub claims_nothing : {A : Type 0} → false ≡ true → A
claims_nothing claim = absurd (cc claim)

-- the model of a file that claims no model: no file keeps it
abbrev pub no_model : {F : Type 0} → DiskModel F
no_model = record { keeps_model = λ _. false; present = λ _. whole []; clock = λ _. 0; left_since = λ _ _ image. IsImage (whole []) image; failures = λ _. 0 }

pub no_model_is_model : {F : Type 0} → IsModel {D = F} no_model
no_model_is_model = record { counts_now = λ _ _ _ claim. claims_nothing claim; only_now = λ _ _ claim. claims_nothing claim; reads_image = λ _ claim. claims_nothing claim }
