-- The version MAJOR.MINOR.PATCH as one number. A later version has a greater number, since the second and the third number of
-- a version are below 1,000.
use Rattle.std.specs.Prelude.{◌+◌, ◌*◌, ℕ}

abbrev pub version_number : ℕ → ℕ → ℕ → ℕ
version_number major minor patch = 1000000 * major + 1000 * minor + patch
