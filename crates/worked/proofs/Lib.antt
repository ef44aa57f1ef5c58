mod RowSteps
mod Circuit
