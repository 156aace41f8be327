-- The proofs of specs/Arrays.antt. Assumes nothing.
use Rattle.address.proofs.CoordinateLaws as address
use Rattle.extent.proofs.ExtentLaws as extent
use Rattle.theorems.specs.Arrays.{CoordinateIsSigned, RegisterIsCoordinates, WalkInside, KeptIsVisited, PixelPlaces}
use Rattle.theorems.specs.Arrays.{GivenPlaces, OfArrays}
use Rattle.theorems.proofs.PlaceLaws as place

pub coordinate-is-signed : CoordinateIsSigned
coordinate-is-signed = (address.coordinate-of-lt, address.coordinate-of-le)

pub register-is-coordinates : RegisterIsCoordinates
register-is-coordinates =
    (address.register_of-x_of-y_of, λ x y hx hy. (address.x_of-register_of x y hx, address.y_of-register_of x y hy))

pub walk_inside : WalkInside
walk_inside words w cols rows e = (extent.lt-of-leaves_memory words w cols rows e, extent.leaves_memory-of-lt words w cols rows)

pub kept-is-visited : KeptIsVisited
kept-is-visited op s = (place.visited-kept op s, place.kept-visited op s)

pub pixel-places : PixelPlaces
pixel-places op s k words ne e i h = (place.dest-place op s k words ne e i h, place.src-place op s k words ne e i h)

pub given-places : GivenPlaces
given-places s i = (place.dest-given s i, place.src-given s i)

pub of-arrays : OfArrays
of-arrays =
    record {
      coordinate-is-signed = coordinate-is-signed;
      register-is-coordinates = register-is-coordinates;
      walk_inside = walk_inside;
      kept-is-visited = kept-is-visited;
      pixel-places = pixel-places;
      given-places = given-places;
    }
