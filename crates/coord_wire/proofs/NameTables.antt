-- Each name has its meaning.
use Rattle.std.proofs.Common.{refl}
use Rattle.coord_wire.specs.Laws.{NamesAreRead}

pub names_are_read : NamesAreRead
names_are_read = record {
  kinds = ((refl, refl), ((refl, refl), ((refl, refl), ((refl, refl), tt))));
  refusals = (
    (refl, refl),
    (
      (refl, refl),
      (
        (refl, refl),
        (
          (refl, refl),
          (
            (refl, refl),
            (
              (refl, refl),
              (
                (refl, refl),
                (
                  (refl, refl),
                  ((refl, refl), ((refl, refl), ((refl, refl), ((refl, refl), ((refl, refl), ((refl, refl), ((refl, refl), ((refl, refl), tt)))))))),
                ),
              ),
            ),
          ),
        ),
      ),
    ),
  );
}
