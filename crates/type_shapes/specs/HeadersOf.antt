-- How headers are seen.
use Rattle.std.specs.Prelude.{map}
use Rattle.xanadu_tree.specs.PlainTreeOf.{plain_function}
use Rattle.type_shapes.specs.declared.headers.Functions as code_functions
use Rattle.type_shapes.specs.declared.headers.Given as code_given
use Rattle.type_shapes.specs.declared.headers.Header as code_header
use Rattle.type_shapes.specs.Headers.{Given, Header, Functions}

abbrev pub given_of : code_given.Given → Given
given_of given = record { quant = given.quant; ty = given.ty; kind = given.kind }

abbrev pub header_of : code_header.Header → Header
header_of header = record {
  declaration = plain_function header.declaration.now;
  quant = header.quant;
  params = header.params.items;
  given = given_of header.given;
}

abbrev pub functions_of : code_functions.Functions → Functions
functions_of functions = record { names = functions.names; headers = map header_of functions.headers.items }
